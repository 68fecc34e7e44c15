-- `h263_halves::put_right` meets its contract: a row between its samples that is put is one row more. Assumes nothing.
use mathlib.Core.Path.{◌∙◌}
use Prim.Native.Nat.{◌+◌, ◌*◌}
use native.Mathlib.Omega.{arith}
use borrow.Author.Rules.{rules}
use Rattle.laws.proofs.Rows.{put_none, put_more, put_end, row_as}
use Rattle.h263_halves.specs.Ready.{Among}
use Rattle.h263_halves.proofs.Half.{sums_low, among_bytes, row_right}
use Rattle.h263_halves.proofs.put_right.Goals as goal
use Rattle.h263_halves.proofs.put_right.Goals.{After-put_row-arg-1}

low : (c : After-put_row-arg-1) → Among c.sums-row.result
low c =
    let l = c.loop-i in
    let a = c.args in
    sums_low a.reference.now (λ n. omega (arith, c.type_inv.reference n)) (a.from + l.i * a.stride) c.sums-row.ensures

pub loop-i-init : goal.loop-i-init
loop-i-init c = (search rules, put_none)

pub overflow_mul-i : goal.overflow_mul-i
overflow_mul-i c = omega (arith, c.requires.source c.loop-i.i (search rules))

pub overflow_add-from : goal.overflow_add-from
overflow_add-from c = omega (arith, c.requires.source c.loop-i.i (search rules))

pub sums-row-requires : goal.sums-row-requires
sums-row-requires c = omega (arith, c.requires.source c.loop-i.i (search rules))

pub overflow_mul-i-in-loop-i : goal.overflow_mul-i-in-loop-i
overflow_mul-i-in-loop-i c = omega (arith, c.requires.target.room c.loop-i.i (search rules))

pub overflow_add-to : goal.overflow_add-to
overflow_add-to c = omega (arith, c.requires.target.room c.loop-i.i (search rules))

pub among-requires : goal.among-requires
among-requires c = (low c, low c)

pub put_row-requires : goal.put_row-requires
put_row-requires c =
    let at-after-put_row-arg-1 = (goal.at.put_row-requires c).After-put_row-arg-1 in
    let sums = c.sums-row in (
      omega (arith, c.requires.target.room c.loop-i.i (search rules), c.loop-i.invariant.1.size),
      among_bytes sums.result sums.result (low at-after-put_row-arg-1) (low at-after-put_row-arg-1) c.among.ensures,
    )

pub loop-i-preserved : goal.loop-i-preserved
loop-i-preserved c =
    let l = c.loop-i in
    let a = c.args in (
      search rules,
      put_more c.requires.target.apart l.invariant.1
          (row_as (λ j m. c.among.ensures.first j m ∙ row_right a.reference.now a.from a.stride l.i c.sums-row.ensures j m) c.put_row.ensures),
    )

pub returns : goal.returns
returns c = put_end c.loop-i.invariant.1 (search rules) (search rules)
