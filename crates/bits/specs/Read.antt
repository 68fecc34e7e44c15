-- What reading is. Document 01: "Above it each read gives either a meaning with the next place or a refusal."
-- The grammar above is written with `field`, `word` (Code.antt), `judged`, `or_end`, `◌>>=◌` and `done` alone, and names no place:
-- "The place is the first bit of the field or codeword" is said once, by `judged`. So it reads in places of any kind (Places.antt). Assumes nothing.
use Rattle.std.specs.Prelude.{ℕ, zero, suc, ◌+◌, ◌*◌, List, [], ◌∷◌, length}
use Rattle.refusals.specs.declared.Reason.{Reason}
use Rattle.refusals.specs.declared.Reason.TheVariants.{BitsEnd}
use Rattle.refusals.specs.Number.{refusal}
use Rattle.bits.specs.Bits.{Bit, num}
use Rattle.bits.specs.Places.{Places, plain, listed, PlaceIn, RefusedIn, bit_in, past_in, stop_in, seen_place, seen_refusal}

-- a meaning, with the bits left and the place of the first of them; or a refusal. No read of the grammar is endless: see `loop`
pub data ReadIn (P : Places) (A : Type 0) : Type 0 where
  got : A → List Bit → PlaceIn P → ReadIn P A
  refused : RefusedIn P → ReadIn P A
  endless : ReadIn P A

-- a way to read: from these bits, the first of which has this place
abbrev pub ReaderIn : Places → Type 0 → Type 0
ReaderIn P A = List Bit → PlaceIn P → ReadIn P A

-- in places of any kind
abbrev pub AnyReader : Type 0 → Type 0
AnyReader A = (P : Places) → ReaderIn P A

-- where a place is the number of a bit
abbrev pub Read : Type 0 → Type 0
Read A = ReadIn plain A

abbrev pub Reader : Type 0 → Type 0
Reader A = ReaderIn plain A

abbrev pub bad : {A : Type 0} → Reason → ℕ → Read A
bad reason place = refused (refusal reason place)

-- a read from there that fails: one read more, which takes no bit
abbrev pub failed : {P : Places} {A : Type 0} → Reason → PlaceIn P → ReadIn P A
failed {P} reason at = refused (stop_in P (refusal reason (bit_in P at)) (past_in P at (bit_in P at)))

-- "The first refusal ends the whole picture, from inside any group, macroblock or block."
abbrev pub next : {P : Places} {A B : Type 0} → ReadIn P A → (A → ReaderIn P B) → ReadIn P B
next (got a bs at) k = k a bs at
next (refused r) k = refused r
next endless k = endless

-- the one read, and from where it ended, the other
abbrev pub ◌>>=◌ : {P : Places} {A B : Type 0} → ReaderIn P A → (A → ReaderIn P B) → ReaderIn P B
◌>>=◌ r k = λ bs at. next (r bs at) k

infixl 20 ◌>>=◌
-- nothing is read
abbrev pub done : {P : Places} {A : Type 0} → A → ReaderIn P A
done a = λ bs at. got a bs at

-- "A field with too few bits left is 3, whatever they hold." `at` is where the field began, p the number of the next bit
unfoldable pub field_from : {P : Places} → ℕ → PlaceIn P → ℕ → List Bit → ℕ → ReadIn P ℕ
field_from {P} zero at v bs p = got v bs (past_in P at p)
field_from (suc k) at v [] p = failed BitsEnd at
field_from (suc k) at v (b ∷ bs) p = field_from k at (v * 2 + num b) bs (p + 1)

-- a field of k bits, as a number
abbrev pub field : {P : Places} → ℕ → ReaderIn P ℕ
field {P} k = λ bs at. field_from k at 0 bs (bit_in P at)

-- what a rule makes of what was read: a meaning, or the reason for a refusal
pub data Judged (A : Type 0) : Type 0 where
  fine : A → Judged A
  against : Reason → Judged A

abbrev pub settle : {P : Places} {A : Type 0} → PlaceIn P → Judged A → ReaderIn P A
settle start (fine a) = done a
settle {P} start (against reason) = λ bs at. refused (stop_in P (refusal reason (bit_in P start)) at)

-- "The place is the first bit of the field or codeword": a rule's refusal of what was read is placed where it began
abbrev pub judged_read : {P : Places} {A B : Type 0} → ReaderIn P A → (A → Judged B) → ReaderIn P B
judged_read r rule = λ bs at. next (r bs at) (λ a. settle at (rule a))

-- several fields that are one codeword, and so one read: any refusal inside is placed at its first bit
abbrev pub moved_read : {P : Places} {A : Type 0} → PlaceIn P → Read A → ReadIn P A
moved_read {P} start (got a bs p) = got a bs (past_in P start p)
moved_read start (refused r) = failed r.reason start
moved_read start endless = endless

abbrev pub whole : {P : Places} {A : Type 0} → Reader A → ReaderIn P A
whole {P} r = λ bs at. moved_read at (r bs (bit_in P at))

-- "no bits left there ends the picture"
abbrev pub or_end : {P : Places} {A : Type 0} → A → ReaderIn P A → ReaderIn P A
or_end a r = λ bs. elim bs [ [] ↦ done a [] | b ∷ bs ↦ r (b ∷ bs) ]

-- A loop has fuel: one turn more than there are bits. Each turn reads a bit at least, so the fuel never runs out.
abbrev pub loop : {P : Places} {A : Type 0} → (ℕ → ReaderIn P A) → ReaderIn P A
loop turn = λ bs at. turn (suc (length bs)) bs at

abbrev pub never : {P : Places} {A : Type 0} → ReaderIn P A
never = λ bs at. endless

-- what is seen of a read that lists its reads
abbrev pub seen_read : (P : Places) {A : Type 0} → ReadIn listed A → ReadIn P A
seen_read P (got a bs at) = got a bs (seen_place P at)
seen_read P (refused r) = refused (seen_refusal P r)
seen_read P endless = endless

-- the list of reads: the width of each, the first one first, also up to a refusal
abbrev pub widths_in : {A : Type 0} → ReadIn listed A → List ℕ
widths_in (got a bs at) = at.widths
widths_in (refused r) = r.widths
widths_in endless = []
