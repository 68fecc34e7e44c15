-- `h261_filter::filter` meets its contract. The loop's invariant: the rows before are filtered; the edge rows stand outside it.
use Prim.Native.Nat.{◌≤◌}
use Rattle.quantiser.proofs.Lines.{Lines}
use Rattle.h261_filter.specs.Filter.{filter_at}
use Rattle.h261_filter.proofs.filter.Given as goal

abbrev pub invariant-loop-row : goal.invariant-loop-row
invariant-loop-row l = (1 ≤ l.row) × (l.row ≤ 7) × Lines (filter_at l.block) l.row l.out
