-- `h263_halves::put_down` meets its contract: a row between two rows that is put is one row more. Assumes nothing.
use Prim.Native.Nat.{◌+◌, ◌*◌, ◌≤◌}
use Rattle.laws.specs.Rows.{Put}
use Rattle.samples.specs.Wrote.{rows_of}
use Rattle.h263_halves.specs.Half.{half_sample}
use Rattle.h263_halves.proofs.put_down.Given as goal

abbrev pub invariant-loop-i : goal.invariant-loop-i
invariant-loop-i l = (l.i ≤ 8) × Put l.i 8 l.to l.stride (λ k j. half_sample (rows_of l.reference l.from l.stride) (2 * k + 1) (2 * j + 0)) l.initial.store l.store
