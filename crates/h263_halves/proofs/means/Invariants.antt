-- `h263_halves::means` meets its contract: each turn of its loop is one sample more. Assumes nothing.
use Prim.Native.Nat.{◌+◌, ◌/◌, ◌≤◌}
use lib.ListN.{get_or}
use Rattle.laws.specs.Rows.{Begins}
use Rattle.h263_halves.proofs.means.Given as goal

abbrev pub invariant-loop-j : goal.invariant-loop-j
invariant-loop-j l = (l.j ≤ 8) × Begins 8 l.j (λ k. (get_or l.samples (l.a + k) 0 + get_or l.samples (l.b + k) 0 + 1) / 2) l.row
