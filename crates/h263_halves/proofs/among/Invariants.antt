-- `h263_halves::among` meets its contract: each turn of its loop is one sample more, and no sum is above 1,022. Assumes nothing.
use Prim.Native.Nat.{◌+◌, ◌/◌, ◌≤◌}
use lib.ListN.{get_or}
use Rattle.laws.specs.Rows.{Begins}
use Rattle.h263_halves.proofs.among.Given as goal

abbrev pub invariant-loop-j : goal.invariant-loop-j
invariant-loop-j l = (l.j ≤ 8) × Begins 8 l.j (λ k. (get_or l.above k 0 + get_or l.below k 0 + 2) / 4) l.row
