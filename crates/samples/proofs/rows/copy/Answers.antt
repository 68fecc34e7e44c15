-- `samples::rows::copy` meets its contract: a row that is read and then put is one row more. Assumes nothing.
use native.Mathlib.Omega.{arith}
use borrow.Author.Rules.{rules}
use Rattle.laws.proofs.Rows.{put_none, put_more, put_end, row_as}
use Rattle.samples.proofs.rows.copy.Goals as goal

pub loop-i-init : goal.loop-i-init
loop-i-init c = (search rules, put_none)

pub overflow_mul-i : goal.overflow_mul-i
overflow_mul-i c = omega (arith, c.requires.source c.loop-i.i (search rules))

pub overflow_add-from : goal.overflow_add-from
overflow_add-from c = omega (arith, c.requires.source c.loop-i.i (search rules))

pub row-samples-requires : goal.row-samples-requires
row-samples-requires c = (c.requires.most, omega (arith, c.requires.source c.loop-i.i (search rules)))

pub overflow_mul-i-in-loop-i : goal.overflow_mul-i-in-loop-i
overflow_mul-i-in-loop-i c = omega (arith, c.requires.target.room c.loop-i.i (search rules))

pub overflow_add-to : goal.overflow_add-to
overflow_add-to c = omega (arith, c.requires.target.room c.loop-i.i (search rules))

pub put_row-requires : goal.put_row-requires
put_row-requires c =
    (c.requires.most, omega (arith, c.requires.target.room c.loop-i.i (search rules), c.loop-i.invariant.1.size))

pub loop-i-preserved : goal.loop-i-preserved
loop-i-preserved c = (
  search rules,
  put_more c.requires.target.apart c.loop-i.invariant.1
      (row_as (λ j l. c.row-samples.ensures.first j l) c.put_row.ensures),
)

pub returns : goal.returns
returns c = put_end c.loop-i.invariant.1 (search rules) (search rules)
