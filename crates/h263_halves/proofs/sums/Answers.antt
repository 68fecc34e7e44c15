-- `h263_halves::sums` meets its contract: each turn of its loop is one sum more. Assumes nothing.
use mathlib.Core.Path.{refl}
use Rattle.laws.proofs.Rows.{begins_none, begins_more, begins_end}
use borrow.Author.Rules.{rules}
use Rattle.h263_halves.proofs.sums.Goals as goal

pub loop-j-init : goal.loop-j-init
loop-j-init c = (search rules, begins_none refl)

pub loop-j-preserved : goal.loop-j-preserved
loop-j-preserved c = (search rules, begins_more c.loop-j.invariant.1 (search rules) c.sum.ensures)

pub returns : goal.returns
returns c = begins_end c.loop-j.invariant.1 (search rules)
