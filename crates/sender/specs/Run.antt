-- A sender over a list of calls, and the clip that it writes. Assumes nothing.
use Rattle.std.specs.Prelude.{ℕ, zero, suc, List, [], ◌∷◌, ◌++◌, take, drop}
use Rattle.coding.specs.declared.Kind.{Kind}
use Rattle.coding.specs.Coding.{Coding}
use Rattle.standing.specs.Stores.{Stores}
use Rattle.sender.specs.declared.Sender.{Sender}
use Rattle.refusals.specs.Told.{Told, accepted, refused_by}
use Rattle.sender.specs.Send.{Outcome, step}

-- a call: a description, and what the lent output holds before it
pub record Call (D : Type 0) : Type 0 where
  pub description : D
  pub out : List ℕ

-- a sender with its two stores: "each call .. gets the last state back .. and the same stores .., untouched since"
pub record World : Type 0 where
  pub sender : Sender
  pub both : Stores

-- the first n blocks of a buffer
unfoldable pub cut : ℕ → List ℕ → List (List ℕ)
cut zero out = []
cut (suc n) out = take 512 out ∷ cut n (drop 512 out)

-- the blocks that a call wrote: a refused one adds none
abbrev pub blocks_added : Told ℕ → List ℕ → List (List ℕ)
blocks_added (accepted n) out = cut n out
blocks_added (refused_by numbers) out = []

module _ {D : Type 0} (coding : Kind → Coding D) where
  unfoldable pub call_outcome : World → Call D → Outcome
  call_outcome w call = step coding w.sender call.description (record { out = call.out; both = w.both })

  unfoldable pub world_after : World → Call D → World
  world_after w call = record { sender = (call_outcome w call).gave.next; both = (call_outcome w call).left.both }

  -- after all of them
  unfoldable pub run : World → List (Call D) → World
  run w [] = w
  run w (call ∷ calls) = run (world_after w call) calls

  -- the clip's blocks, in the order in which they were written
  unfoldable pub clip_of : World → List (Call D) → List (List ℕ)
  clip_of w [] = []
  clip_of w (call ∷ calls) = blocks_added (call_outcome w call).gave.answer (call_outcome w call).left.out ++ clip_of (world_after w call) calls
