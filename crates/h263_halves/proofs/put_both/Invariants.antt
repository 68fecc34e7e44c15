-- `h263_halves::put_both` meets its contract: the sums above and below make a row, and those below are the next ones above. Assumes nothing.
use Prim.Native.Nat.{◌+◌, ◌*◌, ◌≤◌}
use Rattle.laws.specs.Rows.{Put}
use Rattle.samples.specs.Wrote.{rows_of}
use Rattle.h263_halves.specs.Half.{half_sample}
use Rattle.h263_halves.proofs.Half.{Sums}
use Rattle.h263_halves.proofs.put_both.Given as goal

abbrev pub invariant-loop-i : goal.invariant-loop-i
invariant-loop-i l = (l.i ≤ 8) × Sums l.reference (l.from + l.i * l.stride) l.above × Put l.i 8 l.to l.stride (λ k j. half_sample (rows_of l.reference l.from l.stride) (2 * k + 1) (2 * j + 1)) l.initial.store l.store
