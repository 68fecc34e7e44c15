-- `salvaging::collects` meets its contract: by the picture that is wanted. Assumes nothing.
use Rattle.laws.specs.Choice.{opposite}
use borrow.Author.Tests.{eq-eqb, ne_eqb}
use mathlib.Core.Path.{sym, ap, ◌∙◌}
use Rattle.salvaging.proofs.collects.Goals as goal

pub returns-then-wanted-picture : goal.returns-then-wanted-picture
returns-then-wanted-picture c = ap opposite c.is_lost.ensures ∙ sym (rw (eq-eqb _ _ c.if-wanted-picture.true))

pub returns : goal.returns
returns c = sym (rw (ne_eqb _ _ c.if-wanted-picture.false))
