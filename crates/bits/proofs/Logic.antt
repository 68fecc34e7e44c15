-- A logic of reads: what a reader gives, whatever the bits, by a rule for each word that the grammar is written with. Assumes nothing.
-- `Reads bound least Good r`: with fewer than `bound` bits left, r ends; it gives a Good meaning, having read `least` bits or more, or a refusal of reading at a place among those bits
-- or at their end; it lists its reads, each of a bit at least but for one that fails; and in places of another kind it reads the same, as that kind sees it. So a reader is shown once,
-- in listed places, and what it gives in plain places (`gives`) and in counted ones (`counts`) follows.
use Prim.Native.Nat.{ℕ, zero, suc, ◌+◌, ◌-◌, ◌*◌, ◌^◌, ◌≤◌, ◌<◌, zero-le}
use mathlib.Core.Path.{◌≡◌, refl, sym, ap, subst, ◌∙◌}
use mathlib.Core.Bool.{Bool, true, false}
use mathlib.Core.List.{List, [], ◌∷◌, ◌++◌, append_assoc, append-nil}
use native.Mathlib.Omega.{arith}
use native.Mathlib.Nat.{pow-suc, le_refl, not-suc-le-zero}
use borrow.Author.Tests.{eq-eqb}
use lib.Dec.{T, eqb, leb, lit<, leb→le}
use lib.ListN.{length, drop, replicate, length-append, length-drop, length-replicate}
use Rattle.laws.specs.Choice.{pick, both, either}
use Rattle.laws.proofs.Choice.{both_left, both_right, true-T}
use Rattle.refusals.specs.declared.Reason.{Reason}
use Rattle.refusals.specs.declared.Reason.TheVariants.{BitsEnd, NoCodeword}
use Rattle.refusals.specs.declared.Table.{Table}
use Rattle.refusals.specs.declared.Refusal.{Refusal}
use Rattle.refusals.specs.Number.{number, refusal}
use Rattle.bits.specs.Bits.{Bit, num}
use Rattle.bits.specs.Places.{Places, plain, counted, listed, ListedPlace, ListedRefusal, past_in, stop_in, seen_place, total_width}
use Rattle.bits.specs.declared.Place.{Place}
use Rattle.bits.specs.Read.{ReadIn, Read, got, refused, endless, ReaderIn, AnyReader, Reader, next, ◌>>=◌, done, field_from, field, Judged, fine, against, settle, judged_read, moved_read, whole, or_end, loop, seen_read}
use Rattle.bits.specs.Code.{Entry, entry, CodeTable, starts, longer, lookup, word}
use Rattle.bits.proofs.Codes.{each, starts-length}
use Rattle.bits.proofs.Numbers.{num_small}
use Rattle.bits.proofs.Seen.{total_append, seen_bit, seen_stop, seen_field, seen_word, seen_moved}

-- ---- one read
-- what was got is P, what was refused is Q, and the read ended
abbrev pub Holds : {A : Type 0} → (A → List Bit → ℕ → Type 0) → (Refusal → Type 0) → Read A → Type 0
Holds P Q (got a bs at) = P a bs at
Holds P Q (refused r) = Q r
Holds P Q endless = ⊥

-- less may be said of what was got, and of what was refused
pub holds_weaker : {A : Type 0} {P P' : A → List Bit → ℕ → Type 0} {Q Q' : Refusal → Type 0} (x : Read A)
    → ((a : A) (bs : List Bit) (at : ℕ) → P a bs at → P' a bs at) → ((r : Refusal) → Q r → Q' r) → Holds P Q x → Holds P' Q' x
holds_weaker (got a bs at) p q h = p a bs at h
holds_weaker (refused r) p q h = q r h
holds_weaker endless p q h = h

-- the reasons of document 01's table that reading bits gives: numbers 3 to 13
abbrev pub of_bits : Reason → Bool
of_bits reason = both (leb 3 (number reason)) (leb (number reason) 13)

-- a refusal for such a reason, at a place up to `end`
pub record Fair (end : ℕ) (r : Refusal) : Type 0 where
  pub listed : T (of_bits r.reason)
  pub within : r.place ≤ end

-- from these bits at this place to those that are left: the end stays where it was, and `least` bits or more are read
pub record Took (least : ℕ) (bs : List Bit) (at : ℕ) (left : List Bit) (place : ℕ) : Type 0 where
  pub end : place + length left ≡ at + length bs
  pub onward : at + least ≤ place

abbrev pub Gives : {A : Type 0} → ℕ → (A → List Bit → Type 0) → List Bit → ℕ → Read A → Type 0
Gives least Good bs at x = Holds (λ a left place. Took least bs at left place × Good a left) (Fair (at + length bs)) x

-- ---- one read, with the list of its reads
-- between two places: the reads, which have as many bits as there are, and are no more than bits
pub record Between (at place : ListedPlace) : Type 0 where
  pub reads : List ℕ
  pub widths : place.widths ≡ at.widths ++ reads
  pub few : length reads ≤ total_width reads
  pub all : at.bit + total_width reads ≡ place.bit

-- up to a refusal: the reads before its place, and those from there on
pub record UpTo (at : ListedPlace) (end : ℕ) (r : ListedRefusal) : Type 0 where
  pub before : List ℕ
  pub after : List ℕ
  pub widths : r.widths ≡ at.widths ++ (before ++ after)
  pub few : length before ≤ total_width before
  pub placed : at.bit + total_width before ≡ r.refusal.place
  pub all : r.refusal.place + total_width after ≤ end
  -- one, which may be the failed one; or the two components of a vector that points out of the picture
  pub last : T (either (eqb (length after) 1) (both (eqb (length after) 2) (eqb (number r.refusal.reason) 12)))
  pub some : length after ≤ suc (total_width after)

abbrev pub Lists : {A : Type 0} → ℕ → (A → List Bit → Type 0) → List Bit → ListedPlace → ReadIn listed A → Type 0
Lists least Good bs at (got a left place) = Took least bs at.bit left place.bit × Between at place × Good a left
Lists least Good bs at (refused r) = Fair (at.bit + length bs) r.refusal × UpTo at (at.bit + length bs) r
Lists least Good bs at endless = ⊥

pub record Reads {A : Type 0} (bound least : ℕ) (Good : A → List Bit → Type 0) (r : AnyReader A) : Type 0 where
  pub lists : (bs : List Bit) (at : ListedPlace) → length bs < bound → Lists least Good bs at (r listed bs at)
  pub sees : (P : Places) (bs : List Bit) (at : ListedPlace) → length bs < bound → r P bs (seen_place P at) ≡ seen_read P (r listed bs at)

-- in plain places
plainly : {A : Type 0} (least : ℕ) (Good : A → List Bit → Type 0) (bs : List Bit) (at : ListedPlace) (x : ReadIn listed A) → Lists least Good bs at x
    → Gives least Good bs at.bit (seen_read plain x)
plainly least Good bs at (got a left place) h = (h.0, h.2)
plainly least Good bs at (refused r) h = h.0
plainly least Good bs at endless h = h

pub gives : {A : Type 0} {bound least : ℕ} {Good : A → List Bit → Type 0} {r : AnyReader A} → Reads bound least Good r
    → (bs : List Bit) (at : ℕ) → length bs < bound → Gives least Good bs at (r plain bs at)
gives {least = least} {Good} {r} h bs at b =
    let from : ListedPlace = record { bit = at; widths = [] } in
    subst (λ x. Gives least Good bs at x) (sym (h.sees plain bs from b)) (plainly least Good bs from (r listed bs from) (h.lists bs from b))

-- in counted places: each read took a bit at least, but for one that failed
abbrev pub Counts : {A : Type 0} → ℕ → (A → List Bit → Type 0) → List Bit → Place → ReadIn counted A → Type 0
Counts least Good bs at (got a left place) = Took least bs at.bit left place.bit × (place.reads + at.bit ≤ at.reads + place.bit) × Good a left
Counts least Good bs at (refused r) = Fair (at.bit + length bs) r.refusal
Counts least Good bs at endless = ⊥

countedly : {A : Type 0} (least : ℕ) (Good : A → List Bit → Type 0) (bs : List Bit) (at : ListedPlace) (x : ReadIn listed A) → Lists least Good bs at x
    → Counts least Good bs (seen_place counted at) (seen_read counted x)
countedly least Good bs at (got a left place) h =
    (h.0, omega (arith, h.1.few, h.1.all, ap length h.1.widths ∙ length-append at.widths h.1.reads), h.2)
countedly least Good bs at (refused r) h = h.0
countedly least Good bs at endless h = h

pub counts : {A : Type 0} {bound least : ℕ} {Good : A → List Bit → Type 0} {r : AnyReader A} → Reads bound least Good r
    → (bs : List Bit) (at : Place) → length bs < bound → Counts least Good bs at (r counted bs at)
counts {least = least} {Good} {r} h bs at b =
    let from : ListedPlace = record { bit = at.bit; widths = replicate at.reads 0 } in
    let is : seen_place counted from ≡ at = λ i. record { bit = at.bit; reads = length-replicate {A = ℕ} at.reads 0 i } in
    subst (λ (p : Place). Counts least Good bs p (r counted bs p)) is
    (subst (λ x. Counts least Good bs (seen_place counted from) x) (sym (h.sees counted bs from b)) (countedly least Good bs from (r listed bs from) (h.lists bs from b)))

-- ---- one read after another
pub no_reads : (at : ListedPlace) → Between at at
unfolding total_width
no_reads at = record { reads = []; widths = sym (append-nil at.widths); few = omega arith; all = omega arith }

one_read : (at : ListedPlace) (end : ℕ) → at.bit < end → Between at (past_in listed at end)
unfolding total_width
one_read at end l = record { reads = (end - at.bit) ∷ []; widths = refl; few = omega arith; all = omega arith }

joined : {at place rest : ListedPlace} → Between at place → Between place rest → Between at rest
joined {at} {place} {rest} h g = record {
  reads = h.reads ++ g.reads;
  widths = g.widths ∙ ap (λ (ws : List ℕ). ws ++ g.reads) h.widths ∙ append_assoc at.widths h.reads g.reads;
  few = omega (arith, length-append h.reads g.reads, total_append h.reads g.reads, h.few, g.few);
  all = omega (arith, total_append h.reads g.reads, h.all, g.all);
}

joined-refused : {at place : ListedPlace} {end end' : ℕ} {r : ListedRefusal} → Between at place → end ≡ end' → UpTo place end r → UpTo at end' r
joined-refused {at} {place} {end} {end'} {r} h e g = record {
  before = h.reads ++ g.before;
  after = g.after;
  widths =
      g.widths ∙ ap (λ (ws : List ℕ). ws ++ (g.before ++ g.after)) h.widths ∙ append_assoc at.widths h.reads (g.before ++ g.after)
      ∙ ap (λ (ws : List ℕ). at.widths ++ ws) (sym (append_assoc h.reads g.before g.after));
  few = omega (arith, length-append h.reads g.before, total_append h.reads g.before, h.few, g.few);
  placed = omega (arith, total_append h.reads g.before, h.all, g.placed);
  all = omega (arith, g.all, e);
  last = g.last;
  some = g.some;
}

-- what is given from the bits that are left is given from the bits before
onwards : {A : Type 0} (least more : ℕ) (Good : A → List Bit → Type 0) (bs : List Bit) (at : ListedPlace) (left : List Bit) (place : ListedPlace) (x : ReadIn listed A)
    → Took least bs at.bit left place.bit → Between at place → Lists more Good left place x → Lists least Good bs at x
onwards least more Good bs at left place (got a rest p) t b h =
    (record { end = h.0.end ∙ t.end; onward = omega (arith, t, h.0) }, joined b h.1, h.2)
onwards least more Good bs at left place (refused r) t b h =
    (record { listed = h.0.listed; within = omega (arith, t, h.0) }, joined-refused b t.end h.1)
onwards least more Good bs at left place endless t b h = h

after : {A B : Type 0} (least more : ℕ) (Good : A → List Bit → Type 0) (Fine : B → List Bit → Type 0) (bs : List Bit) (at : ListedPlace) (x : ReadIn listed A) (k : A → ReaderIn listed B)
    → Lists least Good bs at x
    → ((a : A) (left : List Bit) (place : ListedPlace) → Took least bs at.bit left place.bit → Between at place → Good a left → Lists more Fine left place (k a left place))
    → Lists least Fine bs at (next x k)
after least more Good Fine bs at (got a left p) k h f = onwards least more Fine bs at left p (k a left p) h.0 h.1 (f a left p h.0 h.1 h.2)
after least more Good Fine bs at (refused r) k h f = h
after least more Good Fine bs at endless k h f = h

-- and as another kind of place sees it
sees_after : {A B : Type 0} (P : Places) (least : ℕ) (Good : A → List Bit → Type 0) (bs : List Bit) (at : ListedPlace) (x : ReadIn listed A) (y : ReadIn P A) (k : (P : Places) → A → ReaderIn P B)
    → y ≡ seen_read P x → Lists least Good bs at x
    → ((a : A) (left : List Bit) (place : ListedPlace) → Took least bs at.bit left place.bit → Good a left → k P a left (seen_place P place) ≡ seen_read P (k listed a left place))
    → next y (k P) ≡ seen_read P (next x (k listed))
sees_after {A} P least Good bs at x y k e h f = ap (λ z. next z (k P)) e ∙ on x h
  where
    on : (x : ReadIn listed A) → Lists least Good bs at x → next (seen_read P x) (k P) ≡ seen_read P (next x (k listed))
    on (got a left p) h = f a left p h.0 h.2
    on (refused r) h = refl
    on endless h = refl

-- ---- the rules
lists_weaker : {A : Type 0} {least less : ℕ} {Good Fine : A → List Bit → Type 0} (bs : List Bit) (at : ListedPlace) (x : ReadIn listed A)
    → less ≤ least → ((a : A) (left : List Bit) → Good a left → Fine a left) → Lists least Good bs at x → Lists less Fine bs at x
lists_weaker bs at (got a left p) l f h = (record { end = h.0.end; onward = omega (arith, l, h.0) }, h.1, f a left h.2)
lists_weaker bs at (refused r) l f h = h
lists_weaker bs at endless l f h = h

-- less may be said of a read
pub reads_weaker : {A : Type 0} {bound least less : ℕ} {Good Fine : A → List Bit → Type 0} {r : AnyReader A}
    → Reads bound least Good r → less ≤ least → ((a : A) (left : List Bit) → Good a left → Fine a left) → Reads bound less Fine r
reads_weaker {r = r} h l f = record { lists = λ bs at b. lists_weaker bs at (r listed bs at) l f (h.lists bs at b); sees = h.sees }

-- that bits are read need not be said
pub reads_any : {A : Type 0} {bound least : ℕ} {Good : A → List Bit → Type 0} {r : AnyReader A} → Reads bound least Good r → Reads bound 0 Good r
reads_any h = reads_weaker h zero-le (λ a left g. g)

pub took_none : (bs : List Bit) (at : ℕ) → Took 0 bs at bs at
took_none bs at = record { end = refl; onward = omega arith }

pub reads_done : {A : Type 0} {bound : ℕ} {Good : A → List Bit → Type 0} {a : A} → ((left : List Bit) → Good a left) → Reads bound 0 Good (λ P. done a)
reads_done g = record { lists = λ bs at b. (took_none bs at.bit, no_reads at, g bs); sees = λ P bs at b. refl }

-- the one read, and from where it ended, with fewer than `rest` bits left, the other
module _ {A B : Type 0} {bound rest least more : ℕ} {Good : A → List Bit → Type 0} {Fine : B → List Bit → Type 0} {r : AnyReader A} {k : (P : Places) → A → ReaderIn P B} where
  bind : ((n : ℕ) → n + least < bound → n < rest) → Reads bound least Good r → ((a : A) (left : List Bit) → Good a left → Reads rest more Fine (λ P. k P a))
      → Reads bound least Fine (λ P. r P >>= k P)
  bind shorter h f =
      record {
        lists = λ bs at b. after least more Good Fine bs at (r listed bs at) (k listed) (h.lists bs at b)
            (λ a left p t w g. (f a left g).lists left p (shorter (length left) (fewer bs at.bit left p.bit t b)));
        sees = λ P bs at b. sees_after P least Good bs at (r listed bs at) (r P bs (seen_place P at)) k (h.sees P bs at b) (h.lists bs at b)
            (λ a left p t g. (f a left g).sees P left p (shorter (length left) (fewer bs at.bit left p.bit t b)));
      }
    where
      fewer : (bs : List Bit) (at : ℕ) (left : List Bit) (p : ℕ) → Took least bs at left p → length bs < bound → length left + least < bound
      fewer bs at left p t b = omega arith

pub reads_then : {A B : Type 0} {bound least more : ℕ} {Good : A → List Bit → Type 0} {Fine : B → List Bit → Type 0} {r : AnyReader A} {k : (P : Places) → A → ReaderIn P B}
    → Reads bound least Good r → ((a : A) (left : List Bit) → Good a left → Reads bound more Fine (λ P. k P a)) → Reads bound least Fine (λ P. r P >>= k P)
reads_then {bound = bound} {least} h f = bind (λ n l. omega arith) h f

-- a turn of a loop: a bit at least is read, so that the next has one bit fewer and one turn fewer
pub reads_turn : {A B : Type 0} {bound more : ℕ} {Good : A → List Bit → Type 0} {Fine : B → List Bit → Type 0} {r : AnyReader A} {k : (P : Places) → A → ReaderIn P B}
    → Reads (suc bound) 1 Good r → ((a : A) (left : List Bit) → Good a left → Reads bound more Fine (λ P. k P a)) → Reads (suc bound) 1 Fine (λ P. r P >>= k P)
reads_turn {bound = bound} h f = bind (λ n l. omega arith) h f

-- what is made of what was read
pub reads_map : {A B : Type 0} {bound least : ℕ} {Good : A → List Bit → Type 0} {Fine : B → List Bit → Type 0} {r : AnyReader A} (f : A → B)
    → Reads bound least Good r → ((a : A) (left : List Bit) → Good a left → Fine (f a) left) → Reads bound least Fine (λ P. r P >>= λ a. done (f a))
reads_map {least = least} {Good} {Fine} {r} f h g =
    record {
      lists = λ bs at b. after least 0 Good Fine bs at (r listed bs at) (λ a. done (f a)) (h.lists bs at b)
          (λ a left p t w good. (took_none left p.bit, no_reads p, g a left good));
      sees = λ P bs at b. sees_after P least Good bs at (r listed bs at) (r P bs (seen_place P at)) (λ P a. done (f a)) (h.sees P bs at b) (h.lists bs at b) (λ a left p t g. refl);
    }

pub reads_loop : {A : Type 0} {bound least : ℕ} {Good : A → List Bit → Type 0} {turn : (P : Places) → ℕ → ReaderIn P A}
    → ((turns : ℕ) → Reads turns least Good (λ P. turn P turns)) → Reads bound least Good (λ P. loop (turn P))
reads_loop h =
    record {
      lists = λ bs at b. (h (suc (length bs))).lists bs at (le_refl (suc (length bs)));
      sees = λ P bs at b. (h (suc (length bs))).sees P bs at (le_refl (suc (length bs)));
    }

-- no bit is fewer than none
pub reads_never : {A : Type 0} {least : ℕ} {Good : A → List Bit → Type 0} {r : AnyReader A} → Reads 0 least Good r
reads_never = record { lists = λ bs at b. absurd (not-suc-le-zero b); sees = λ P bs at b. absurd (not-suc-le-zero b) }

-- ---- how many reads a reader makes
abbrev pub Made : {A : Type 0} → ℕ → ListedPlace → ReadIn listed A → Type 0
Made many at (got a left place) = length place.widths ≡ length at.widths + many
Made many at (refused r) = Unit {0}
Made many at endless = Unit {0}

-- it makes so many where it isn't refused
pub record Makes {A : Type 0} (many : ℕ) (r : AnyReader A) : Type 0 where
  pub made : (bs : List Bit) (at : ListedPlace) → Made many at (r listed bs at)

past_made : (at : ListedPlace) (end : ℕ) → length (past_in listed at end).widths ≡ length at.widths + 1
past_made at end = length-append at.widths ((end - at.bit) ∷ [])

pub makes_field : (k : ℕ) → Makes 1 (λ P. field k)
unfolding field_from
makes_field k = record { made = λ bs at. from k at 0 bs at.bit }
  where
    from : (k : ℕ) (at : ListedPlace) (v : ℕ) (bs : List Bit) (p : ℕ) → Made 1 at (field_from k at v bs p)
    from zero at v bs p = past_made at p
    from (suc k) at v [] p = tt
    from (suc k) at v (b ∷ bs) p = from k at (v * 2 + num b) bs (p + 1)

pub makes_word : (table : CodeTable) → Makes 1 (λ P. word table)
unfolding word lookup
makes_word table = record { made = λ bs at. from table.entries bs at _ tt }
  where
    from : (tab : List Entry) (bs : List Bit) (at : ListedPlace) (other : ReadIn listed ℕ) → Made 1 at other → Made 1 at (lookup tab bs at other)
    from [] bs at other h = h
    from (entry w m ∷ tab) bs at other h = by (starts w bs) (from tab bs at other h)
      where
        by : (s : Bool) → Made 1 at (lookup tab bs at other)
            → Made {A = ℕ} 1 at (elim s [ true ↦ got m (drop (length w) bs) (past_in listed at (at.bit + length w)) | false ↦ lookup tab bs at other ])
        by true h = past_made at (at.bit + length w)
        by false h = h

pub makes_whole : {A : Type 0} (r : Reader A) → Makes 1 (λ P. whole r)
makes_whole {A} r = record { made = λ bs at. from at (r bs at.bit) }
  where
    from : (at : ListedPlace) (x : Read A) → Made 1 at (moved_read at x)
    from at (got a left p) = past_made at p
    from at (refused r) = tt
    from at endless = tt

made_after : {A B : Type 0} (many more : ℕ) (at : ListedPlace) (x : ReadIn listed A) (k : A → ReaderIn listed B) → Made many at x
    → ((a : A) (left : List Bit) (place : ListedPlace) → Made more place (k a left place)) → Made (many + more) at (next x k)
made_after {B = B} many more at (got a left place) k h f = on (k a left place) (f a left place)
  where
    on : (y : ReadIn listed B) → Made more place y → Made (many + more) at y
    on (got b rest p) g = omega (arith, h, g)
    on (refused r) g = tt
    on endless g = tt
made_after many more at (refused r) k h f = tt
made_after many more at endless k h f = tt

pub makes_then : {A B : Type 0} {many more : ℕ} {r : AnyReader A} {k : (P : Places) → A → ReaderIn P B} → Makes many r → ((a : A) → Makes more (λ P. k P a)) → Makes (many + more) (λ P. r P >>= k P)
makes_then {many = many} {more} {r} {k} h f = record { made = λ bs at. made_after many more at (r listed bs at) (k listed) (h.made bs at) (λ a left place. (f a).made left place) }

pub makes_map : {A B : Type 0} {many : ℕ} {r : AnyReader A} (f : A → B) → Makes many r → Makes many (λ P. r P >>= λ a. done (f a))
makes_map {A} {B} {many} {r} f h = record { made = λ bs at. on at (r listed bs at) (h.made bs at) }
  where
    on : (at : ListedPlace) (x : ReadIn listed A) → Made many at x → Made {A = B} many at (next x (λ a. done (f a)))
    on at (got a left place) g = g
    on at (refused r) g = tt
    on at endless g = tt

pub makes_judged : {A B : Type 0} {many : ℕ} {r : AnyReader A} (rule : A → Judged B) → Makes many r → Makes many (λ P. judged_read (r P) rule)
makes_judged {A} {B} {many} {r} rule h = record { made = λ bs at. on at (r listed bs at) (h.made bs at) }
  where
    by : (at : ListedPlace) (j : Judged B) (left : List Bit) (place : ListedPlace) → length place.widths ≡ length at.widths + many → Made many at (settle at j left place)
    by at (fine b) left place g = g
    by at (against reason) left place g = tt

    on : (at : ListedPlace) (x : ReadIn listed A) → Made many at x → Made many at (next x (λ a. settle at (rule a)))
    on at (got a left place) g = by at (rule a) left place g
    on at (refused r) g = tt
    on at endless g = tt

-- ---- a rule's judgement
abbrev pub Judging : {A : Type 0} → (A → Type 0) → Judged A → Type 0
Judging Good (fine a) = Good a
Judging Good (against reason) = T (of_bits reason)

pub record Judges {A : Type 0} (Good : A → Type 0) (j : Judged A) : Type 0 where
  pub judges : Judging Good j

pub judges_fine : {A : Type 0} {Good : A → Type 0} (a : A) → Good a → Judges Good (fine a)
judges_fine a h = record { judges = h }

pub judges_against : {A : Type 0} {Good : A → Type 0} (reason : Reason) → T (of_bits reason) → Judges Good (against reason)
judges_against reason t = record { judges = t }

pub judges_pick : {A : Type 0} {Good : A → Type 0} {x y : Judged A} (t : Bool) → (T t → Judges Good x) → (t ≡ false → Judges Good y) → Judges Good (pick t x y)
judges_pick true f g = f tt
judges_pick false f g = g refl

-- the number of reads that a rule's refusal ends with
abbrev lastly : ℕ → Reason → Bool
lastly many reason = either (eqb many 1) (both (eqb many 2) (eqb (number reason) 12))

made_reads : (many : ℕ) {at place : ListedPlace} (b : Between at place) → length place.widths ≡ length at.widths + many → length b.reads ≡ many
made_reads many {at} b e = omega (arith, ap length b.widths ∙ length-append at.widths b.reads, e)

settled : {B : Type 0} (least many : ℕ) (Fine : B → List Bit → Type 0) (bs : List Bit) (at : ListedPlace) (j : Judged B) (left : List Bit) (place : ListedPlace) → Took least bs at.bit left place.bit
    → Between at place → length place.widths ≡ length at.widths + many → Judging (λ b. Fine b left) j → ((reason : Reason) → j ≡ against reason → T (lastly many reason))
    → Lists least Fine bs at (settle at j left place)
unfolding total_width
settled least many Fine bs at (fine b) left place t w m h l = (t, w, h)
settled least many Fine bs at (against reason) left place t w m h l = (
  record { listed = h; within = omega arith },
  record {
    before = [];
    after = w.reads;
    widths = w.widths;
    few = omega arith;
    placed = omega arith;
    all = omega (arith, w.all, t.end);
    last = subst (λ (k : ℕ). T (lastly k reason)) (sym (made_reads many w m)) (l reason refl);
    some = omega (arith, w.few);
  },
)

settle_sees : {B : Type 0} (P : Places) (at : ListedPlace) (j : Judged B) (left : List Bit) (place : ListedPlace) → settle (seen_place P at) j left (seen_place P place) ≡ seen_read P (settle at j left place)
settle_sees P at (fine b) left place = refl
settle_sees P at (against reason) left place =
    ap (λ (q : ℕ). refused (stop_in P (refusal reason q) (seen_place P place))) (seen_bit P at) ∙ ap (λ x. refused x) (seen_stop P (refusal reason at.bit) place)

module _ {A B : Type 0} (least many : ℕ) {Good : A → List Bit → Type 0} {Fine : B → List Bit → Type 0} {rule : A → Judged B} (fair : (a : A) (left : List Bit) → Good a left → Judges (λ b. Fine b left) (rule a))
    (few : (a : A) (reason : Reason) → rule a ≡ against reason → T (lastly many reason)) where
  judged_lists : (bs : List Bit) (at : ListedPlace) (x : ReadIn listed A) → Lists least Good bs at x → Made many at x → Lists least Fine bs at (next x (λ a. settle at (rule a)))
  judged_lists bs at (got a left place) h m = settled least many Fine bs at (rule a) left place h.0 h.1 m (fair a left h.2).judges (few a)
  judged_lists bs at (refused r) h m = h
  judged_lists bs at endless h m = h

  -- "The place is the first bit of the field or codeword"
  judged_so : {bound : ℕ} {r : AnyReader A} → Makes many r → Reads bound least Good r → Reads bound least Fine (λ P. judged_read (r P) rule)
  judged_so {r = r} m h =
      record {
        lists = λ bs at b. judged_lists bs at (r listed bs at) (h.lists bs at b) (m.made bs at);
        sees = λ P bs at b. judged_seen P at (r listed bs at) (r P bs (seen_place P at)) (h.sees P bs at b);
      }
    where
      judged_seen : (P : Places) (at : ListedPlace) (x : ReadIn listed A) (y : ReadIn P A) → y ≡ seen_read P x → next y (λ a. settle (seen_place P at) (rule a)) ≡ seen_read P (next x (λ a. settle at (rule a)))
      judged_seen P at x y e = ap (λ z. next z (λ a. settle (seen_place P at) (rule a))) e ∙ on x
        where
          on : (x : ReadIn listed A) → next (seen_read P x) (λ a. settle (seen_place P at) (rule a)) ≡ seen_read P (next x (λ a. settle at (rule a)))
          on (got a left place) = settle_sees P at (rule a) left place
          on (refused r) = refl
          on endless = refl

-- a rule over one read
pub reads_judged : {A B : Type 0} {bound least : ℕ} {Good : A → List Bit → Type 0} {Fine : B → List Bit → Type 0} {r : AnyReader A} {rule : A → Judged B}
    → Makes 1 r → Reads bound least Good r → ((a : A) (left : List Bit) → Good a left → Judges (λ b. Fine b left) (rule a)) → Reads bound least Fine (λ P. judged_read (r P) rule)
reads_judged {least = least} m h f = judged_so least 1 f (λ a reason e. tt) m h

-- a rule over the two components of a vector
pub reads_judged_both : {A B : Type 0} {bound least : ℕ} {Good : A → List Bit → Type 0} {Fine : B → List Bit → Type 0} {r : AnyReader A} {rule : A → Judged B}
    → Makes 2 r → Reads bound least Good r → ((a : A) (left : List Bit) → Good a left → Judges (λ b. Fine b left) (rule a)) → ((a : A) (reason : Reason) → rule a ≡ against reason → number reason ≡ 12)
    → Reads bound least Fine (λ P. judged_read (r P) rule)
reads_judged_both {least = least} m h f l = judged_so least 2 f (λ a reason e. true-T (eqb (number reason) 12) (eq-eqb (number reason) 12 (l a reason e))) m h

-- ---- a read that fails
failed_upto : (at : ListedPlace) (end : ℕ) (reason : Reason) → at.bit ≤ end → UpTo at end (stop_in listed (refusal reason at.bit) (past_in listed at at.bit))
unfolding total_width
failed_upto at end reason l = record {
  before = [];
  after = (at.bit - at.bit) ∷ [];
  widths = refl;
  few = omega arith;
  placed = omega arith;
  all = omega arith;
  last = tt;
  some = omega arith;
}

-- ---- several fields that are one codeword
pub reads_whole : {A : Type 0} {bound least : ℕ} {Good : A → List Bit → Type 0} {r : AnyReader A} → 1 ≤ least → Reads bound least Good r → Reads bound least Good (λ P. whole (r plain))
reads_whole {A} {least = least} {Good} {r} some h =
    record {
      lists = λ bs at b. back bs at (r plain bs at.bit) (gives h bs at.bit b);
      sees = λ P bs at b. ap (λ (q : ℕ). moved_read (seen_place P at) (r plain bs q)) (seen_bit P at) ∙ seen_moved P at (r plain bs at.bit);
    }
  where
    back : (bs : List Bit) (at : ListedPlace) (x : Read A) → Gives least Good bs at.bit x → Lists least Good bs at (moved_read at x)
    back bs at (got a left p) g = (g.0, one_read at p (omega (arith, g.0.onward, some)), g.1)
    back bs at (refused r) g = (record { listed = g.listed; within = omega arith }, failed_upto at (at.bit + length bs) r.reason (omega arith))
    back bs at endless g = g

-- ---- a field: a number of k bits
-- j of k bits are read, and hold v
field_lists : (k j rest : ℕ) → 1 ≤ k → j + rest ≡ k → (bs : List Bit) (at : ListedPlace) (v : ℕ) (left : List Bit) (p : ℕ)
    → Took j bs at.bit left p → v < 2 ^ j → Lists k (λ v left. v < 2 ^ k) bs at (field_from rest at v left p)
unfolding field_from
field_lists k j zero some e bs at v left p t l =
    let all : j ≡ k = omega arith in
    (record { end = t.end; onward = omega arith }, one_read at p (omega arith), subst (λ (n : ℕ). v < 2 ^ n) all l)
field_lists k j (suc rest) some e bs at v [] p t l = (record { listed = unfold number in tt; within = omega arith }, failed_upto at (at.bit + length bs) BitsEnd (omega arith))
field_lists k j (suc rest) some e bs at v (b ∷ left) p t l =
    let more : Took (suc j) bs at.bit left (p + 1) = record { end = omega (arith, t.end); onward = omega arith } in
    field_lists k (suc j) rest some (omega arith) bs at (v * 2 + num b) left (p + 1) more (omega (arith, pow-suc 2 j, num_small b))

pub reads_field : {bound : ℕ} (k : ℕ) → T (leb 1 k) → Reads bound k (λ v left. v < 2 ^ k) (λ P. field k)
reads_field k some =
    record {
      lists = λ bs at b. field_lists k 0 k (leb→le 1 k some) (omega arith) bs at 0 bs at.bit (took_none bs at.bit) (lit< tt);
      sees = λ P bs at b. seen_field P k bs at;
    }

-- ---- a codeword, of a table in which every codeword has a bit and a meaning that passes p
none-listed : (cut : Bool) (name : Table) → T (of_bits (pick cut BitsEnd (NoCodeword name)))
unfolding number
none-listed true name = tt
none-listed false name = tt

-- the table finds a meaning, or leaves what other says
lookup_lists : (p : ℕ → Bool) (table : List Entry) (bs : List Bit) (at : ListedPlace) (other : ReadIn listed ℕ) → T (each p table)
    → Lists 1 (λ m left. T (p m)) bs at other → Lists 1 (λ m left. T (p m)) bs at (lookup table bs at other)
unfolding lookup
lookup_lists p [] bs at other t h = h
lookup_lists p (entry [] m ∷ table) bs at other t h = absurd t
lookup_lists p (entry (x ∷ w) m ∷ table) bs at other t h = from (starts (x ∷ w) bs) refl (lookup_lists p table bs at other (both_right (p m) (each p table) t) h)
  where
    from : (s : Bool) → starts (x ∷ w) bs ≡ s → Lists 1 (λ m left. T (p m)) bs at (lookup table bs at other)
        → Lists 1 (λ m left. T (p m)) bs at (elim s [ true ↦ got m (drop (length (x ∷ w)) bs) (past_in listed at (at.bit + length (x ∷ w))) | false ↦ lookup table bs at other ])
    from true s h =
        let l : length (x ∷ w) ≤ length bs = starts-length (x ∷ w) bs (rw s tt) in
        (record { end = omega (arith, length-drop (length (x ∷ w)) bs); onward = omega arith }, one_read at (at.bit + length (x ∷ w)) (omega arith), both_left (p m) (each p table) t)
    from false s h = h

pub reads_word : {bound : ℕ} (p : ℕ → Bool) (table : CodeTable) → T (each p table.entries) → Reads bound 1 (λ m left. T (p m)) (λ P. word table)
unfolding word
reads_word p table t =
    record {
      lists = λ bs at b. lookup_lists p table.entries bs at _ t
          (record { listed = none-listed (longer table.entries bs) table.name; within = omega arith }, failed_upto at (at.bit + length bs) _ (omega arith));
      sees = λ P bs at b. seen_word P table bs at;
    }

-- ---- no bits left
-- where no bits are left, what is made of the end; else what is read
pub reads_or_end : {A B : Type 0} {bound least : ℕ} {Good : B → List Bit → Type 0} (a : A) (r : AnyReader A) (k : (P : Places) → A → ReaderIn P B)
    → ((at : ListedPlace) → Lists least Good [] at (k listed a [] at)) → ((P : Places) (at : ListedPlace) → k P a [] (seen_place P at) ≡ seen_read P (k listed a [] at))
    → Reads bound least Good (λ P. r P >>= k P) → Reads bound least Good (λ P. or_end a (r P) >>= k P)
reads_or_end {bound = bound} {least} {Good} a r k e s h = record { lists = from; sees = by }
  where
    from : (bs : List Bit) (at : ListedPlace) → length bs < bound → Lists least Good bs at ((or_end a (r listed) >>= k listed) bs at)
    from [] at b = e at
    from (x ∷ bs) at b = h.lists (x ∷ bs) at b

    by : (P : Places) (bs : List Bit) (at : ListedPlace) → length bs < bound → (or_end a (r P) >>= k P) bs (seen_place P at) ≡ seen_read P ((or_end a (r listed) >>= k listed) bs at)
    by P [] at b = s P at
    by P (x ∷ bs) at b = h.sees P (x ∷ bs) at b
