-- `samples::blocks::put_sums` meets its contract: a sample is a byte. Assumes nothing.
use Prim.Native.Nat.{◌≤◌}
use lib.IntN.{nat_abs}
use Rattle.laws.specs.Rows.{Row}
use Rattle.quantiser.specs.Lines.{entry}
use Rattle.samples.proofs.blocks.put_sums.Given as goal

abbrev pub invariant-loop-j : goal.invariant-loop-j
invariant-loop-j l = (l.j ≤ 8) × Row l.to l.j (λ k. nat_abs (entry l.row k)) l.initial.store l.store
