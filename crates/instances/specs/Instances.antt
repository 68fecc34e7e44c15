-- Nothing is vacuous: a valid description above the limit, and a clip and a delivery that meet the premises of demand 3, with what comes of them, of every kind. Assumes nothing.
use Rattle.std.specs.Prelude.{ℕ, zero, suc, ◌+◌, ◌*◌, ◌<◌, ◌≡◌, true, false, List, [], ◌∷◌, ◌++◌, length}
use Rattle.refusals.specs.Told.{refused}
use Rattle.size.specs.Size.{limit, output_length}
use Rattle.layout.specs.Flat.{Flat}
use Rattle.coding.specs.declared.Kind.{Kind}
use Rattle.coding.specs.declared.Kind.TheVariants.{H261, H263}
use Rattle.coding.specs.Kind.{kind_size, coding_of}
use Rattle.coding.specs.Described.{write_of}
use Rattle.sender.specs.Run.{call_outcome, world_after}
use Rattle.standing.specs.Answered.{Said, taken, lost, picture}
use Rattle.standing.specs.Receive.{place, lent_lengths, step}
use Rattle.standing.specs.Run.{World, answers}
use Rattle.standing.specs.Shown.{shown_by}
use Rattle.demand3.specs.Clip.{Picture, opening, blocks_in, pictures_in, begin, Each, world_given}
use Rattle.demand3.specs.Arrives.{InStepAt}
use Rattle.instances.specs.Uniform.{grey, heavy}
use Rattle.instances.specs.Example.{newcomer, call, example}
use Rattle.ticks.specs.declared.Tick.{Tick}
use Rattle.ticks.specs.declared.Tick.TheVariants.{Exact, Estimated}
use Rattle.h261_groups.specs.declared.Format.TheVariants as F
use Rattle.size.specs.declared.Size.TheVariants as S
use Rattle.standing.specs.declared.Standing.TheVariants as T

-- ---- 32: "written picture above the limit". There is a valid description of which that holds
pub record Above (k : Kind) (d : Flat) : Type 0 where
  pub is_valid : (coding_of k).valid d ≡ true
  pub above : limit (kind_size k) < length ((coding_of k).written d)
  pub answers_32 : (out : List ℕ) → length out ≡ output_length (kind_size k) → write_of k d (length out) ≡ refused 32 0

abbrev pub AboveLimitValid : Type 0
AboveLimitValid = (k : Kind) → Above k (heavy k)

-- ---- the answers to a picture's parts from this one on, if so many come before the last, which has this tick
abbrev pub arrival : ℕ → ℕ → ℕ → Tick → List Said
arrival p part zero tick = picture p tick ∷ []
arrival p part (suc left) tick = taken p part ∷ arrival p (part + 1) left tick

-- a refresh of the example has two blocks in H.261's QCIF and seven in its CIF, and in H.263 two, three and nine
abbrev pub before_last : Kind → ℕ
before_last (H261 F.Qcif) = 1
before_last (H261 F.Cif) = 6
before_last (H263 S.SubQcif) = 1
before_last (H263 S.Qcif) = 2
before_last (H263 S.Cif) = 8

-- ---- the example: the second of six calls is refused, picture 1 gets lost, and picture 3 is a refresh
pub record Example (kind : Kind) : Type 0 where
  pub picture0 : Picture Flat
  pub picture1 : Picture Flat
  pub picture2 : Picture Flat
  pub picture3 : Picture Flat
  pub picture4 : Picture Flat
  pub sent : pictures_in coding_of (example kind) ≡ picture0 ∷ picture1 ∷ picture2 ∷ picture3 ∷ picture4 ∷ []
  -- the refused call, by 32
  pub is_refused : (call_outcome coding_of (world_after coding_of (opening coding_of (example kind)) (call kind (grey kind 1))) (call kind (heavy kind))).gave.answer ≡ refused 32 0
  pub described0 : picture0.description ≡ grey kind 1
  pub described3 : picture3.description ≡ grey kind 2
  -- pictures 0 and 3 are refreshes, the others are not
  pub refresh0 : (coding_of kind).refresh picture0.description ≡ true
  pub plain1 : (coding_of kind).refresh picture1.description ≡ false
  pub plain2 : (coding_of kind).refresh picture2.description ≡ false
  pub refresh3 : (coding_of kind).refresh picture3.description ≡ true
  pub plain4 : (coding_of kind).refresh picture4.description ≡ false

-- what is delivered, all but picture 1, and what comes of it: in step at 0, lost, catching up at 3, in step at 3 and at 4
module _ {kind : Kind} (x : Example kind) where
  -- picture 2's block finds it lost
  abbrev pub until_lost : List (List ℕ)
  until_lost = x.picture0.blocks ++ x.picture2.blocks

  abbrev pub delivered : List (List ℕ)
  delivered = until_lost ++ (x.picture3.blocks ++ x.picture4.blocks)

  abbrev pub astray : World
  astray = world_given (step coding_of) (begin (newcomer kind)) until_lost

  pub record Delivered : Type 0 where
    -- what `InStep` and `CatchesUp` ask for
    pub named : lent_lengths (kind_size kind) (newcomer kind).lent ≡ true
    pub each : Each (blocks_in coding_of (example kind)) delivered
    -- what comes of it: each TR is 0, so that a tick is its modulus above the last
    pub said : answers coding_of (begin (newcomer kind)) delivered
        ≡ arrival 0 0 (before_last kind) (Exact 0) ++ (lost ∷ (arrival 3 0 (before_last kind) (Estimated (coding_of kind).modulus) ++ (picture 4 (Estimated (2 * (coding_of kind).modulus)) ∷ [])))
    pub at_0 : InStepAt (step coding_of) shown_by (pictures_in coding_of (example kind)) 0 (begin (newcomer kind)) x.picture0.blocks
    -- lost, "wanted place kept": picture 3 isn't earlier
    pub is_lost : astray.receiver.progress.standing ≡ T.Lost
    pub wants : astray.receiver.progress.wanted ≡ place 1 0
    pub at_3 : InStepAt (step coding_of) shown_by (pictures_in coding_of (example kind)) 3 astray x.picture3.blocks
    pub at_4 : InStepAt (step coding_of) shown_by (pictures_in coding_of (example kind)) 4 astray (x.picture3.blocks ++ x.picture4.blocks)

abbrev pub ExampleDelivered : Type 0
ExampleDelivered = (kind : Kind) → (x : Example kind) × Delivered x
