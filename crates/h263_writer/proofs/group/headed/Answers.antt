-- `group::headed` meets its contract: GQUANT is 0 where no header stands.
use mathlib.Core.Path.{sym, ap}
use borrow.Author.Tests.{eq-eqb, ne_eqb}
use Rattle.laws.specs.Choice.{opposite}
use Rattle.h263_writer.proofs.group.headed.Goals as goal

pub returns-then-gquant-eq0 : goal.returns-then-gquant-eq0
returns-then-gquant-eq0 c = sym (ap opposite (eq-eqb _ 0 c.if-gquant-eq0.true))

pub returns : goal.returns
returns c = sym (ap opposite (ne_eqb _ 0 c.if-gquant-eq0.false))
