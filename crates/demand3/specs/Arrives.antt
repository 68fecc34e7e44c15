-- "all blocks of a .. picture .. arrive in order with at most older blocks between"; "it finishes that picture in step". Assumes nothing.
use Rattle.std.specs.Prelude.{◌≡◌, true, List, [], ◌∷◌, ◌++◌, ℕ, ◌+◌, length}
use Rattle.std.proofs.Math.Option.{some}
use Rattle.std.proofs.Math.ListN.{get_elem?}
use Rattle.ticks.specs.declared.Tick.{Tick}
use Rattle.standing.specs.Run.{World}
use Rattle.demand3.specs.Clip.{Picture, PartOf, Receive, Show, Right, upon}
use Rattle.standing.specs.Answered as A
use Rattle.standing.specs.declared.Standing.TheVariants as T
use Rattle.standing.specs.Receive as R

module _ {D : Type 0} (sent : List (Picture D)) where
  -- "older blocks": blocks of the clip at places earlier than the awaited one, repeats included
  pub record Older (p part : ℕ) (block : List ℕ) : Type 0 where
    pub its_picture : ℕ
    pub its_part : ℕ
    pub is : PartOf sent its_picture its_part block
    pub earlier : R.earlier_place (R.place its_picture its_part) (R.place p part) ≡ true

  abbrev pub EachOlder : ℕ → ℕ → List (List ℕ) → Type 0
  EachOlder p part [] = Unit {0}
  EachOlder p part (block ∷ blocks) = Older p part block × EachOlder p part blocks

  -- these blocks, in this order, bring picture p from this part on: each next part in its turn, with older blocks between, and then all have come
  pub data Arrives (p : ℕ) : ℕ → List (List ℕ) → Type 0 where
    all : {part : ℕ} (picture : Picture D) → get_elem? sent p ≡ some picture → part ≡ length picture.blocks → Arrives p part []
    older : {part : ℕ} {block : List ℕ} {blocks : List (List ℕ)} → Older p part block → Arrives p part blocks → Arrives p part (block ∷ blocks)
    next : {part : ℕ} {block : List ℕ} {blocks : List (List ℕ)} → PartOf sent p part block → Arrives p (part + 1) blocks → Arrives p part (block ∷ blocks)

  -- "each next picture whose blocks follow on": the blocks that bring picture p, then those that bring picture p + 1, and so on
  abbrev pub Follow : ℕ → List (List (List ℕ)) → Type 0
  Follow p [] = Unit {0}
  Follow p (blocks ∷ later) = Arrives p 0 blocks × Follow (p + 1) later

-- one after another
abbrev pub in_turn : List (List (List ℕ)) → List (List ℕ)
in_turn [] = []
in_turn (blocks ∷ later) = blocks ++ in_turn later

-- "finishes that picture": the call for one of these blocks is answered so, and only older ones come after it
pub record Finishes {D : Type 0} (receive : Receive) (sent : List (Picture D)) (k : ℕ) (w : World) (blocks : List (List ℕ)) : Type 0 where
  pub before : List (List ℕ)
  pub block : List ℕ
  pub after : List (List ℕ)
  pub is : blocks ≡ before ++ (block ∷ after)
  pub tick : Tick
  pub answers : (upon receive w before block).gave.answer ≡ A.picture k tick
  pub only_older : EachOlder sent (k + 1) 0 after

-- "finishes that picture in step": and with the last of these blocks the receiver stands in step at picture k, and shows the sender's store after it
pub record InStepAt {D : Type 0} (receive : Receive) (show : Show) (sent : List (Picture D)) (k : ℕ) (w : World) (blocks : List (List ℕ)) : Type 0 where
  pub finishes : Finishes receive sent k w blocks
  pub before : List (List ℕ)
  pub block : List ℕ
  pub is : blocks ≡ before ++ (block ∷ [])
  pub stands : (upon receive w before block).gave.next.progress.standing ≡ T.InStep k
  pub right : Right show sent (upon receive w before block)
