-- `sender::begins` meets its contract: by the picture's number. Assumes nothing.
use borrow.Author.Tests.{eq-eqb, ne_eqb}
use Rattle.sender.proofs.begins.Goals as goal

pub returns-then-picture-eq0 : goal.returns-then-picture-eq0
returns-then-picture-eq0 c = rw (eq-eqb _ _ c.if-picture-eq0.true)

pub returns : goal.returns
returns c = rw (ne_eqb _ _ c.if-picture-eq0.false)
