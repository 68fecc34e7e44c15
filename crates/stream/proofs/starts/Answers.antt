-- `stream::starts` meets its contract. Assumes nothing.
use mathlib.Core.Path.{ap}
use Prim.Native.Nat.{ℕ}
use lib.Dec.{eqb}
use Rattle.stream.proofs.starts.Goals as goal

pub returns : goal.returns
returns c = ap (λ (w : ℕ). eqb w 16) c.window_after.ensures
