-- `test_leaves::blocks::block` meets its contract. The loop's invariant: the coefficients before the k-th are laid out. Assumes nothing.
use Prim.Native.Nat.{◌≤◌}
use lib.IntN.{pos}
use Rattle.laws.proofs.Block.{Done}
use Rattle.test_leaves.specs.Coefficient.{coefficients_of}
use Rattle.test_leaves.proofs.blocks.block.Given as goal

abbrev pub invariant-loop-k : goal.invariant-loop-k
invariant-loop-k l = (l.k ≤ 64) × Done (pos 0) (coefficients_of l.bytes) l.k l.block
