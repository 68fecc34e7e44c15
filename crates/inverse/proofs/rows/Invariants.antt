-- `inverse::rows` meets its contract. The loop's invariant: the first v rows are the sums of the block's rows.
use Prim.Native.Nat.{◌≤◌}
use Rattle.quantiser.proofs.Lines.{Lines}
use Rattle.inverse.proofs.Split.{across_at}
use Rattle.inverse.proofs.rows.Given as goal

abbrev pub invariant-loop-v : goal.invariant-loop-v
invariant-loop-v l = (l.v ≤ 8) × Lines (across_at l.n) l.v l.t
