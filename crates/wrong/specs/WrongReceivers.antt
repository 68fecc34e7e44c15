-- Receivers that demand 3 rules out, of those that document 01 names under "What the promises decide", and one that document 02's T-14 does: each of any `receive` and `show` that are so. Assumes nothing.
use Rattle.std.specs.Prelude.{◌≡◌, Bool, true, false, ℕ, ◌≤◌, ◌<◌}
use mathlib.Core.List.{List, Memᴰ}
use Rattle.std.proofs.Math.Option.{some}
use Rattle.std.proofs.Math.ListN.{get_elem?}
use Rattle.laws.specs.Choice.{both, opposite}
use Rattle.layout.specs.Flat.{Flat}
use Rattle.coding.specs.Kind.{coding_of}
use Rattle.standing.specs.declared.Receiver.{Receiver}
use Rattle.standing.specs.Receive.{place, earlier_place, same_place, is_lost, Buffers, Outcome, step}
use Rattle.demand3.specs.Clip.{Picture, Clip, blocks_in, pictures_in, Fresh, begin, Each, Receive, Show, world_given, upon}
use Rattle.demand3.specs.Demand3.{CatchesUp}
use Rattle.demand3.specs.Soon.{InOrder, BackInStep}
use Rattle.standing.specs.declared.Standing.TheVariants as T

-- ---- wrong: "a receiver that does nothing or is lost for ever"
-- one whose state no call changes
abbrev pub IdleWrong : Type 0
IdleWrong = (receive : Receive) (show : Show) → ((r : Receiver) (block : List ℕ) (b : Buffers) → (receive r block b).gave.next ≡ r) → CatchesUp coding_of receive show → ⊥

-- one that, once lost, is lost after each call
abbrev pub LostWrong : Type 0
LostWrong = (receive : Receive) (show : Show) → ((r : Receiver) (block : List ℕ) (b : Buffers) → r.progress.standing ≡ T.Lost → (receive r block b).gave.next.progress.standing ≡ T.Lost)
    → CatchesUp coding_of receive show → ⊥

-- one that is never in step after a call
abbrev pub NeverInStepWrong : Type 0
NeverInStepWrong = (receive : Receive) (show : Show) → ((r : Receiver) (block : List ℕ) (b : Buffers) (k : ℕ) → (receive r block b).gave.next.progress.standing ≡ T.InStep k → ⊥)
    → CatchesUp coding_of receive show → ⊥

-- one that is ours until it is lost after its first picture began, and then is lost for ever, whatever else it does
abbrev pub was_lost : Receiver → Bool
was_lost r = both (is_lost r.progress.standing) (opposite (same_place r.progress.wanted (place 0 0)))

abbrev pub LostForEverWrong : Type 0
LostForEverWrong = (receive : Receive) (show : Show)
    → ((r : Receiver) (block : List ℕ) (b : Buffers) → was_lost r ≡ false → receive r block b ≡ step coding_of r block b)
    → ((r : Receiver) (block : List ℕ) (b : Buffers) → was_lost r ≡ true → was_lost (receive r block b).gave.next ≡ true)
    → CatchesUp coding_of receive show → ⊥

-- ---- what a fresh receiver comes to with any blocks of any clip
pub record Delivery : Type 0 where
  pub clip : Clip Flat
  pub receiver : Fresh clip.number clip.kind
  pub before : List (List ℕ)
  pub block : List ℕ
  pub each : Each (blocks_in coding_of clip) before
  pub one : Memᴰ block (blocks_in coding_of clip)

abbrev pub comes_to : Receive → Delivery → Outcome
comes_to receive d = upon receive (begin d.receiver) d.before d.block

abbrev pub StandsAt : Receive → Delivery → ℕ → Type 0
StandsAt receive d k = (comes_to receive d).gave.next.progress.standing ≡ T.InStep k

abbrev pub Sent : Delivery → ℕ → Picture Flat → Type 0
Sent d k x = get_elem? (pictures_in coding_of d.clip) k ≡ some x

-- ---- wrong: one that "finishes only refresh pictures": where it is in step, the picture is a refresh
abbrev pub OnlyRefreshWrong : Type 0
OnlyRefreshWrong = (receive : Receive) (show : Show)
    → ((d : Delivery) (k : ℕ) (x : Picture Flat) → StandsAt receive d k → Sent d k x → (coding_of d.clip.kind).refresh x.description ≡ true)
    → CatchesUp coding_of receive show → ⊥

-- ---- wrong: "one that decodes picture 0 and then only renumbers it": whatever picture it is in step at, it shows the bytes of picture 0, or others that it makes of picture 0
abbrev pub RenumberingWrong : Type 0
RenumberingWrong = (receive : Receive) (show : Show) (made : Picture Flat → List ℕ)
    → ((d : Delivery) (k : ℕ) (x : Picture Flat) → StandsAt receive d k → Sent d 0 x → show (comes_to receive d).gave (comes_to receive d).left.both ≡ made x)
    → CatchesUp coding_of receive show → ⊥

-- ---- wrong by T-14: one that needs two refreshes: given a clip's blocks in order from some part on, it is in step only once two refreshes' part 0 have come, whatever else it does
abbrev pub RefreshAt : Clip Flat → ℕ → Type 0
RefreshAt c p = (x : Picture Flat) × (get_elem? (pictures_in coding_of c) p ≡ some x) × ((coding_of c.kind).refresh x.description ≡ true)

pub record TwoRefreshes (c : Clip Flat) (j part q : ℕ) : Type 0 where
  pub first : ℕ
  pub second : ℕ
  -- from part `part` of picture j on
  pub from : earlier_place (place first 0) (place j part) ≡ false
  pub less : first < second
  pub upto : second ≤ q
  pub at_first : RefreshAt c first
  pub at_second : RefreshAt c second

abbrev pub TwoRefreshesWrong : Type 0
TwoRefreshesWrong = (receive : Receive) (show : Show)
    → ((c : Clip Flat) (r : Fresh c.number c.kind) (q last j part : ℕ) (blocks : List (List ℕ)) → InOrder (pictures_in coding_of c) q last j part blocks
    → (k : ℕ) → (world_given receive (begin r) blocks).receiver.progress.standing ≡ T.InStep k → TwoRefreshes c j part q)
    → BackInStep coding_of receive show 12 → ⊥
