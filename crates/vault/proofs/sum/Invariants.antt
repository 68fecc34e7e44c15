-- `vault::sum` meets its contract. The loop's invariant: the total is the exact sum of the terms passed, and at most 130050 a term, so it never wraps.
-- Assumes nothing.
use mathlib.Core.Path.{◌≡◌}
use Prim.Native.Nat.{◌≤◌, ◌*◌}
use Rattle.vault.specs.Block.{weighted}
use Rattle.vault.proofs.sum.Given as goal

abbrev pub invariant-loop-i : goal.invariant-loop-i
invariant-loop-i l = (l.total ≡ weighted l.block l.i) × (l.total ≤ 130050 * l.i)
