-- `samples::blocks::put` meets its contract: a row that is cut and put is one row more. Assumes nothing.
use Prim.Native.Nat.{◌≤◌}
use lib.IntN.{pos}
use Rattle.laws.specs.Rows.{Put}
use Rattle.laws.specs.Block.{cell}
use Rattle.quantiser.specs.Sample.{sample_of}
use Rattle.samples.proofs.blocks.put.Given as goal

abbrev pub invariant-loop-i : goal.invariant-loop-i
invariant-loop-i l = (l.i ≤ 8) × Put l.i 8 l.to l.stride (λ k j. sample_of (pos 0) (cell (pos 0) l.block k j)) l.initial.store l.store
