-- `h263_halves::put_row` meets its contract: each turn of its loop writes the next sample. Assumes nothing.
use Prim.Native.Nat.{◌≤◌}
use lib.ListN.{get_or}
use Rattle.laws.specs.Rows.{Row}
use Rattle.h263_halves.proofs.put_row.Given as goal

abbrev pub invariant-loop-j : goal.invariant-loop-j
invariant-loop-j l = (l.j ≤ 8) × Row l.to l.j (λ k. get_or l.row k 0) l.initial.store l.store
