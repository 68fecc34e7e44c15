-- `standing::begins` meets its contract. Assumes nothing.
use borrow.Author.Tests.{eq-eqb, ne_eqb}
use Rattle.standing.proofs.begins.Goals as goal

pub returns-then-header-eq0 : goal.returns-then-header-eq0
returns-then-header-eq0 c = rw (eq-eqb _ _ c.if-header-eq0.true)

pub returns : goal.returns
returns c = rw (ne_eqb _ _ c.if-header-eq0.false)
