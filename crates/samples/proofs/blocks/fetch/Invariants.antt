-- `samples::blocks::fetch` meets its contract: cell by cell, since every sample fits. Assumes nothing.
use Prim.Native.Nat.{◌+◌, ◌*◌, ◌≤◌}
use lib.IntN.{pos}
use Rattle.laws.proofs.Block.{Done}
use Rattle.samples.specs.Wrote.{block_from}
use Rattle.samples.proofs.blocks.fetch.Given as goal

abbrev pub invariant-loop-j : goal.invariant-loop-j
invariant-loop-j l = (l.j ≤ 8) × Done (pos 0) (block_from l.samples l.start l.stride) (l.i * 8 + l.j) l.block

abbrev pub invariant-loop-i : goal.invariant-loop-i
invariant-loop-i l = (l.i ≤ 8) × Done (pos 0) (block_from l.samples l.start l.stride) (l.i * 8 + 0) l.block
