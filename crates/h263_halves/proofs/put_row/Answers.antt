-- `h263_halves::put_row` meets its contract: each turn of its loop writes the next sample. Assumes nothing.
use mathlib.Core.Path.{refl}
use native.Mathlib.Omega.{arith}
use Rattle.laws.proofs.Rows.{row_none, row_more, row_end}
use borrow.Author.Rules.{rules}
use Rattle.h263_halves.proofs.put_row.Goals as goal

pub loop-j-init : goal.loop-j-init
loop-j-init c = (search rules, row_none)

pub overflow_cast-store : goal.overflow_cast-store
overflow_cast-store c = omega (arith, c.requires.1 c.loop-j.j (search rules))

pub loop-j-preserved : goal.loop-j-preserved
loop-j-preserved c = (search rules, row_more c.loop-j.invariant.1 (search rules) refl)

pub returns : goal.returns
returns c = row_end c.loop-j.invariant.1 (search rules) (search rules)
