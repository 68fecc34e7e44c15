-- `h263_halves::put_both` meets its contract: the sums above and below make a row, and those below are the next ones above. Assumes nothing.
use mathlib.Core.Path.{refl, ◌∙◌}
use Prim.Native.Nat.{ℕ, ◌+◌, ◌*◌, ◌≤◌}
use native.Mathlib.Omega.{arith}
use borrow.Author.Rules.{rules}
use lib.ListN.{get_or}
use Rattle.laws.proofs.Rows.{put_none, put_more, put_end, row_as}
use Rattle.h263_halves.specs.Ready.{Among}
use Rattle.h263_halves.proofs.Half.{sums_at, sums_low, among_bytes, row_both}
use Rattle.h263_halves.proofs.put_both.Goals as goal
use Rattle.h263_halves.proofs.put_both.Goals.{After-put_row-arg-1}

byte : (c : After-put_row-arg-1) → (n : ℕ) → get_or c.args.reference.now n 0 ≤ 255
byte c n = omega (arith, c.type_inv.reference n)

above_low : (c : After-put_row-arg-1) → Among c.loop-i.above
above_low c = sums_low c.args.reference.now (byte c) (c.args.from + c.loop-i.i * c.args.stride) c.loop-i.invariant.1

below_low : (c : After-put_row-arg-1) → Among c.sums-below.result
below_low c = sums_low c.args.reference.now (byte c) (c.args.from + (c.loop-i.i + 1) * c.args.stride) c.sums-below.ensures

pub sums-above-requires : goal.sums-above-requires
sums-above-requires c = omega (arith, c.requires.source 0 (search rules))

pub loop-i-init : goal.loop-i-init
loop-i-init c = (search rules, sums_at c.args.reference.now (omega arith) c.sums-above.ensures, put_none)

pub overflow_add-i : goal.overflow_add-i
overflow_add-i c =
    omega (arith, c.requires.source (c.loop-i.i + 1) (search rules))

pub overflow_mul-i : goal.overflow_mul-i
overflow_mul-i c =
    omega (arith, c.requires.source (c.loop-i.i + 1) (search rules))

pub overflow_add-from : goal.overflow_add-from
overflow_add-from c =
    omega (arith, c.requires.source (c.loop-i.i + 1) (search rules))

pub sums-below-requires : goal.sums-below-requires
sums-below-requires c =
    omega (arith, c.requires.source (c.loop-i.i + 1) (search rules))

pub overflow_mul-i-in-loop-i : goal.overflow_mul-i-in-loop-i
overflow_mul-i-in-loop-i c =
    omega (arith, c.requires.target.room c.loop-i.i (search rules))

pub overflow_add-to : goal.overflow_add-to
overflow_add-to c =
    omega (arith, c.requires.target.room c.loop-i.i (search rules))

pub among-requires : goal.among-requires
among-requires c = (above_low c, below_low c)

pub put_row-requires : goal.put_row-requires
put_row-requires c =
    let at-after-put_row-arg-1 = (goal.at.put_row-requires c).After-put_row-arg-1 in (
      omega (arith, c.requires.target.room c.loop-i.i (search rules), c.loop-i.invariant.2.size),
      among_bytes c.loop-i.above c.sums-below.result (above_low at-after-put_row-arg-1) (below_low at-after-put_row-arg-1) c.among.ensures,
    )

pub loop-i-preserved : goal.loop-i-preserved
loop-i-preserved c =
    let l = c.loop-i in
    let below = c.sums-below in (
      search rules,
      below.ensures,
      put_more c.requires.target.apart l.invariant.2
          (row_as (λ j m. c.among.ensures.first j m
          ∙ row_both c.args.reference.now c.args.from c.args.stride l.i refl l.invariant.1 below.ensures j m) c.put_row.ensures),
    )

pub returns : goal.returns
returns c = put_end c.loop-i.invariant.2 (search rules) (search rules)
