-- Document 02, T-14: a clip with a refresh in every run of 12 pictures, and a delivery that is back in step no sooner than the bound says, of every kind. Assumes nothing.
use Rattle.std.specs.Prelude.{◌≡◌, Bool, true, false, List, [], ◌∷◌, ◌++◌, map, ℕ, replicate}
use Rattle.layout.specs.Flat.{Flat}
use Rattle.coding.specs.declared.Kind.{Kind}
use Rattle.coding.specs.Kind.{coding_of}
use Rattle.standing.specs.Receive.{step}
use Rattle.standing.specs.Run.{World}
use Rattle.standing.specs.Shown.{shown_by}
use Rattle.demand3.specs.Clip.{Picture, Clip, pictures_in, begin, Receive, after_block}
use Rattle.demand3.specs.Soon.{InOrder, RefreshEvery, Soon}
use Rattle.instances.specs.Uniform.{still, grey}
use Rattle.instances.specs.Example.{newcomer, clip}
use Rattle.standing.specs.declared.Standing.TheVariants as T

-- ---- 25 pictures, of which 0, 12 and 24 are refreshes, and nothing is sent in the others
abbrev pub next_refresh : List Bool → List Bool
next_refresh later = replicate 11 false ++ (true ∷ later)

abbrev pub refresh_marks : List Bool
refresh_marks = true ∷ next_refresh (next_refresh [])

abbrev pub marked_picture : Kind → Bool → Flat
marked_picture kind true = grey kind 1
marked_picture kind false = still kind

abbrev pub sparse_clip : Kind → Clip Flat
sparse_clip kind = clip kind (map (marked_picture kind) refresh_marks)

-- not in step after any of these blocks
abbrev pub NotInStep : Receive → World → List (List ℕ) → Type 0
NotInStep receive w [] = Unit {0}
NotInStep receive w (block ∷ blocks) = ((k : ℕ) → (after_block receive w block).receiver.progress.standing ≡ T.InStep k → ⊥) × NotInStep receive (after_block receive w block) blocks

-- ---- a fresh receiver is given the clip's blocks from part 1 of picture 12 on, and so picture j + 12 is 24
pub record Bound (kind : Kind) : Type 0 where
  pub refreshes : map (λ (x : Picture Flat). (coding_of kind).refresh x.description) (pictures_in coding_of (sparse_clip kind)) ≡ refresh_marks
  pub every : RefreshEvery (coding_of kind) 12 (pictures_in coding_of (sparse_clip kind))
  -- up to the last part of picture 24
  pub before : List (List ℕ)
  pub last : List ℕ
  pub in_order : InOrder (pictures_in coding_of (sparse_clip kind)) 25 0 12 1 (before ++ (last ∷ []))
  -- with them all it has been in step, and it isn't until the last of them
  pub soon : Soon (step coding_of) shown_by (pictures_in coding_of (sparse_clip kind)) 24 (begin (newcomer kind)) (before ++ (last ∷ []))
  pub no_sooner : NotInStep (step coding_of) (begin (newcomer kind)) before

abbrev pub BoundReached : Type 0
BoundReached = (kind : Kind) → Bound kind
