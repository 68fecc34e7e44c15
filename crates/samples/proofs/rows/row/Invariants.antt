-- `samples::rows::row` meets its contract: each turn of its loop reads the next sample. Assumes nothing.
use Prim.Native.Nat.{◌+◌, ◌≤◌}
use lib.ListN.{get_or}
use Rattle.laws.specs.Rows.{Begins}
use Rattle.samples.proofs.rows.row.Given as goal

abbrev pub invariant-loop-j : goal.invariant-loop-j
invariant-loop-j l = (l.j ≤ l.count) × Begins 16 l.j (λ k. get_or l.samples (l.from + k) 0) l.row
