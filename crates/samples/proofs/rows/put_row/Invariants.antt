-- `samples::rows::put_row` meets its contract: each turn of its loop writes the next sample. Assumes nothing.
use Prim.Native.Nat.{◌≤◌}
use lib.ListN.{get_or}
use Rattle.laws.specs.Rows.{Row}
use Rattle.samples.proofs.rows.put_row.Given as goal

abbrev pub invariant-loop-j : goal.invariant-loop-j
invariant-loop-j l = (l.j ≤ l.count) × Row l.to l.j (λ k. get_or l.row k 0) l.initial.store l.store
