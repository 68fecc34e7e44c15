-- `inverse::columns` meets its contract. The loops' invariant: the columns before x, and the first y numbers of column x, are the definition's.
use Prim.Native.Nat.{◌≤◌, ◌+◌, ◌*◌}
use Rattle.quantiser.proofs.Lines.{Columns}
use Rattle.inverse.specs.Passes.{columns_at}
use Rattle.inverse.proofs.columns.Given as goal

abbrev pub invariant-loop-y : goal.invariant-loop-y
invariant-loop-y l = (l.y ≤ 8) × Columns (columns_at l.t) (l.x * 8 + l.y) l.out

abbrev pub invariant-loop-x : goal.invariant-loop-x
invariant-loop-x l = (l.x ≤ 8) × Columns (columns_at l.t) (l.x * 8 + 0) l.out
