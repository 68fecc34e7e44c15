-- `samples::rows::copy` meets its contract: a row that is read and then put is one row more. Assumes nothing.
use Prim.Native.Nat.{◌≤◌}
use Rattle.laws.specs.Rows.{Put}
use Rattle.samples.specs.Wrote.{rows_of}
use Rattle.samples.proofs.rows.copy.Given as goal

abbrev pub invariant-loop-i : goal.invariant-loop-i
invariant-loop-i l = (l.i ≤ l.side) × Put l.i l.side l.to l.stride (rows_of l.reference l.from l.stride) l.initial.store l.store
