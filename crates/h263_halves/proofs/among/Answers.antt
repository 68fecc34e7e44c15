-- `h263_halves::among` meets its contract: each turn of its loop is one sample more, and no sum is above 1,022. Assumes nothing.
use mathlib.Core.Path.{refl}
use native.Mathlib.Omega.{arith}
use Rattle.laws.proofs.Rows.{begins_none, begins_more, begins_end}
use borrow.Author.Rules.{rules}
use Rattle.h263_halves.proofs.among.Goals as goal

pub loop-j-init : goal.loop-j-init
loop-j-init c = (search rules, begins_none refl)

pub overflow_add-row : goal.overflow_add-row
overflow_add-row c =
    let at = c.loop-j.j in omega (arith, c.requires.0 at (search rules), c.requires.1 at (search rules))

pub overflow_add-row-in-loop-j : goal.overflow_add-row-in-loop-j
overflow_add-row-in-loop-j c =
    let at = c.loop-j.j in omega (arith, c.requires.0 at (search rules), c.requires.1 at (search rules))

pub loop-j-preserved : goal.loop-j-preserved
loop-j-preserved c = (search rules, begins_more c.loop-j.invariant.1 (search rules) refl)

pub returns : goal.returns
returns c = begins_end c.loop-j.invariant.1 (search rules)
