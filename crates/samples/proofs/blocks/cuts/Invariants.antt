-- `samples::blocks::cuts` meets its contract: each number is cut to a sample, by `quantiser::sample`. Assumes nothing.
use Prim.Native.Nat.{◌≤◌}
use lib.IntN.{pos}
use Rattle.laws.specs.Rows.{Starts}
use Rattle.laws.specs.Block.{cell}
use Rattle.quantiser.specs.Sample.{sample_of}
use Rattle.samples.proofs.blocks.cuts.Given as goal

abbrev pub invariant-loop-j : goal.invariant-loop-j
invariant-loop-j l = (l.j ≤ 8) × Starts (pos 0) 8 l.j (λ k. pos (sample_of (pos 0) (cell (pos 0) l.block l.i k))) l.row
