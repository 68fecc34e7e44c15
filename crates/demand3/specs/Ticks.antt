-- Document 02, T-02, "Ticks ignore dropped pictures": what holds of the ticks that a fresh receiver answers with, whatever the coding, if it obeys its laws. Assumes nothing.
use Rattle.std.specs.Prelude.{◌≡◌, true, ℕ, zero, suc, ◌+◌, ◌%◌, ◌≤◌, get_or}
use mathlib.Core.List.{List, [], ◌∷◌, map, Memᴰ}
use Rattle.coding.specs.declared.Kind.{Kind}
use Rattle.coding.specs.Coding.{Coding}
use Rattle.coding.specs.Kind.{coding_of, AllLawful}
use Rattle.vault.specs.declared.Header.{Header}
use Rattle.ticks.specs.declared.Tick.{Tick}
use Rattle.ticks.specs.Tick.{tick_number, is_exact, tick_above}
use Rattle.standing.specs.Answered.{Said}
use Rattle.standing.specs.Receive.{finished, decide, step}
use Rattle.standing.specs.Run.{World, run, answers}
use Rattle.demand3.specs.Clip.{Picture, Clip, blocks_in, pictures_in, Fresh, begin, Each, Receive, upon}
use Rattle.standing.specs.Answered as A
use Rattle.ticks.specs.declared.Tick.TheVariants as T

-- ---- over any blocks, of the clip or not
-- the block finishes a picture of this description, with a tick that has its TR
pub record HasTr {D : Type 0} (coding : Kind → Coding D) (w : World) (block : List ℕ) (picture : ℕ) (tr modulus : ℕ) : Type 0 where
  pub tick : Tick
  pub answers : (step coding w.receiver block w.lent).gave.answer ≡ A.picture picture tick
  pub has_tr : tick_number tick % modulus ≡ tr

-- every tick has its picture's TR, modulo 32
abbrev pub EachHasTr : Type 1
EachHasTr = (D : Type 0) (coding : Kind → Coding D) → AllLawful coding → (number : ℕ) (kind : Kind) (r : Fresh number kind) (blocks : List (List ℕ)) (block : List ℕ) (header : Header) (d : D)
    → decide coding (run coding (begin r) blocks).receiver block (run coding (begin r) blocks).lent ≡ finished header d
    → HasTr coding (run coding (begin r) blocks) block header.picture ((coding kind).tr d) (coding kind).modulus

-- of the finished pictures among these answers: each tick is this or more, and above the one before
abbrev pub RiseFrom : ℕ → List Said → Type 0
RiseFrom least [] = Unit {0}
RiseFrom least (A.picture picture tick ∷ rest) = (least ≤ tick_number tick) × RiseFrom (tick_number tick + 1) rest
RiseFrom least (A.old picture part ∷ rest) = RiseFrom least rest
RiseFrom least (A.taken picture part ∷ rest) = RiseFrom least rest
RiseFrom least (A.lost ∷ rest) = RiseFrom least rest
RiseFrom least (A.refused numbers ∷ rest) = RiseFrom least rest

abbrev pub TicksRise : Type 1
TicksRise = (D : Type 0) (coding : Kind → Coding D) → AllLawful coding → (number : ℕ) (kind : Kind) (r : Fresh number kind) (blocks : List (List ℕ))
    → RiseFrom 0 (answers coding (begin r) blocks)

-- they are pictures n, n + 1 and so on
abbrev pub NoneSkipped : ℕ → List Said → Type 0
NoneSkipped n [] = Unit {0}
NoneSkipped n (A.picture picture tick ∷ rest) = (picture ≡ n) × NoneSkipped (n + 1) rest
NoneSkipped n (A.old picture part ∷ rest) = NoneSkipped n rest
NoneSkipped n (A.taken picture part ∷ rest) = NoneSkipped n rest
NoneSkipped n (A.lost ∷ rest) = NoneSkipped n rest
NoneSkipped n (A.refused numbers ∷ rest) = NoneSkipped n rest

-- their ticks are exact
abbrev pub EachExact : List Said → Type 0
EachExact [] = Unit {0}
EachExact (A.picture picture tick ∷ rest) = (is_exact tick ≡ true) × EachExact rest
EachExact (A.old picture part ∷ rest) = EachExact rest
EachExact (A.taken picture part ∷ rest) = EachExact rest
EachExact (A.lost ∷ rest) = EachExact rest
EachExact (A.refused numbers ∷ rest) = EachExact rest

-- a receiver that finished every picture from 0 on is exact
abbrev pub ExactFromTheFirst : Type 1
ExactFromTheFirst = (D : Type 0) (coding : Kind → Coding D) (number : ℕ) (kind : Kind) (r : Fresh number kind) (blocks : List (List ℕ))
    → NoneSkipped 0 (answers coding (begin r) blocks) → EachExact (answers coding (begin r) blocks)

-- ---- over a sender's clip
-- the tick that pictures 0 to k give, all of them, by their TRs
unfoldable pub tick_through : ℕ → (ℕ → ℕ) → ℕ → ℕ
tick_through modulus tr zero = tr zero
tick_through modulus tr (suc k) = tick_above modulus (tick_through modulus tr k) (tr (suc k))

-- the TR of picture k
abbrev pub tr_in : {D : Type 0} → Coding D → List (Picture D) → ℕ → ℕ
tr_in coding sent k = get_or (map (λ x. coding.tr x.description) sent) k 0

-- "an exact one is that tick", "an estimated tick is never above the one that all its pictures would give"
abbrev pub TickAgainst : ℕ → Tick → Type 0
TickAgainst all (T.Exact n) = n ≡ all
TickAgainst all (T.Estimated n) = n ≤ all

-- of any receiver, whichever of the clip's blocks came before
abbrev pub ClipTicks : {D : Type 0} → (Kind → Coding D) → Receive → Type 0
ClipTicks {D} coding receive = (c : Clip D) (r : Fresh c.number c.kind) (blocks : List (List ℕ)) (block : List ℕ) → Each (blocks_in coding c) blocks → Memᴰ block (blocks_in coding c)
    → (k : ℕ) (tick : Tick) → (upon receive (begin r) blocks block).gave.answer ≡ A.picture k tick
    → TickAgainst (tick_through (coding c.kind).modulus (tr_in (coding c.kind) (pictures_in coding c)) k) tick

abbrev pub ClipTicksAlways : Type 1
ClipTicksAlways = (D : Type 0) (coding : Kind → Coding D) → AllLawful coding → ClipTicks coding (step coding)

-- and so of ours
abbrev pub ClipTicksMet : Type 0
ClipTicksMet = ClipTicks coding_of (step coding_of)
