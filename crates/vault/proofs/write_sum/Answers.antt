-- `vault::write_sum` meets its contract: two stores. Assumes nothing.
use mathlib.Core.Path.{ap}
use Prim.Native.Nat.{ℕ}
use lib.Seq.{sets}
use Rattle.vault.specs.Block.{two_bytes}
use Rattle.vault.proofs.write_sum.Goals as goal

pub returns : goal.returns
returns c = ap (λ (s : ℕ). sets c.args.block.now 510 (two_bytes s)) c.sum-summed.ensures
