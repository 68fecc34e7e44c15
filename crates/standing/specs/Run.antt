-- A receiver over a list of blocks. Assumes nothing.
use Rattle.std.specs.Prelude.{ℕ, List, [], ◌∷◌}
use Rattle.coding.specs.declared.Kind.{Kind}
use Rattle.standing.specs.declared.Receiver.{Receiver}
use Rattle.coding.specs.Coding.{Coding}
use Rattle.standing.specs.Receive.{Event, decide, Buffers, step}
use Rattle.standing.specs.Answered.{Said}

-- a receiver with what it is lent at each call: "each call .. gets the last state back .. and the same stores and collection buffer, untouched since"
pub record World : Type 0 where
  pub receiver : Receiver
  pub lent : Buffers

module _ {D : Type 0} (coding : Kind → Coding D) where
  unfoldable pub world_after : World → List ℕ → World
  world_after w block =
      let x = step coding w.receiver block w.lent in
      record { receiver = x.gave.next; lent = x.left }

  -- after all of them
  unfoldable pub run : World → List (List ℕ) → World
  run w [] = w
  run w (block ∷ blocks) = run (world_after w block) blocks

  -- what each comes to, in order
  unfoldable pub events : World → List (List ℕ) → List (Event D)
  events w [] = []
  events w (block ∷ blocks) = decide coding w.receiver block w.lent ∷ events (world_after w block) blocks

  -- and what is said of each
  unfoldable pub answers : World → List (List ℕ) → List Said
  answers w [] = []
  answers w (block ∷ blocks) = (step coding w.receiver block w.lent).gave.answer ∷ answers (world_after w block) blocks
