-- `h263_halves::put_down` meets its contract: a row between two rows that is put is one row more. Assumes nothing.
use mathlib.Core.Path.{◌∙◌}
use Prim.Native.Nat.{◌+◌, ◌*◌}
use native.Mathlib.Omega.{arith}
use borrow.Author.Rules.{rules}
use Rattle.laws.proofs.Rows.{put_none, put_more, put_end, row_as}
use Rattle.h263_halves.proofs.Half.{means_bytes, row_down}
use Rattle.h263_halves.proofs.put_down.Goals as goal

pub loop-i-init : goal.loop-i-init
loop-i-init c = (search rules, put_none)

pub overflow_mul-i : goal.overflow_mul-i
overflow_mul-i c = omega (arith, c.requires.source c.loop-i.i (search rules))

pub overflow_add-from : goal.overflow_add-from
overflow_add-from c = omega (arith, c.requires.source c.loop-i.i (search rules))

pub overflow_add-i : goal.overflow_add-i
overflow_add-i c = omega (arith, c.requires.source (c.loop-i.i + 1) (search rules))

pub overflow_mul-i-in-loop-i : goal.overflow_mul-i-in-loop-i
overflow_mul-i-in-loop-i c = omega (arith, c.requires.source (c.loop-i.i + 1) (search rules))

pub overflow_add-from-in-loop-i : goal.overflow_add-from-in-loop-i
overflow_add-from-in-loop-i c = omega (arith, c.requires.source (c.loop-i.i + 1) (search rules))

pub means-row-requires : goal.means-row-requires
means-row-requires c =
    let source = c.requires.source in
    let i = c.loop-i.i in
    record { one = omega (arith, source i (search rules)); two = omega (arith, source (i + 1) (search rules)) }

pub overflow_mul-i-in-loop-i-2 : goal.overflow_mul-i-in-loop-i-2
overflow_mul-i-in-loop-i-2 c = omega (arith, c.requires.target.room c.loop-i.i (search rules))

pub overflow_add-to : goal.overflow_add-to
overflow_add-to c = omega (arith, c.requires.target.room c.loop-i.i (search rules))

pub put_row-requires : goal.put_row-requires
put_row-requires c =
    let l = c.loop-i in
    let a = c.args in (
      omega (arith, c.requires.target.room l.i (search rules), l.invariant.1.size),
      means_bytes a.reference.now (λ n. omega (arith, c.type_inv.reference n)) (a.from + l.i * a.stride) (a.from + (l.i + 1) * a.stride) c.means-row.ensures,
    )

pub loop-i-preserved : goal.loop-i-preserved
loop-i-preserved c =
    let l = c.loop-i in
    let a = c.args in (
      search rules,
      put_more c.requires.target.apart l.invariant.1
          (row_as (λ j m. c.means-row.ensures.first j m ∙ row_down a.reference.now a.from a.stride l.i j) c.put_row.ensures),
    )

pub returns : goal.returns
returns c = put_end c.loop-i.invariant.1 (search rules) (search rules)
