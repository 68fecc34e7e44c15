-- `samples::blocks::add` meets its contract: a row of sums that is put is one row more, and the next one is as it was. Assumes nothing.
use Prim.Native.Nat.{◌≤◌}
use lib.IntN.{pos}
use Rattle.laws.specs.Rows.{Put}
use Rattle.laws.specs.Block.{cell}
use Rattle.quantiser.specs.Sample.{sample_of}
use Rattle.samples.specs.Wrote.{block_from}
use Rattle.samples.proofs.blocks.add.Given as goal

abbrev pub invariant-loop-i : goal.invariant-loop-i
invariant-loop-i l = (l.i ≤ 8) × Put l.i 8 l.to l.stride (λ k j. sample_of (block_from l.initial.store l.to l.stride k j) (cell (pos 0) l.block k j)) l.initial.store l.store
