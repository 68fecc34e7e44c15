-- `sender::open` meets its contract. Assumes nothing.
use borrow.Author.Tests.{eq-eqb, ne_eqb}
use Rattle.refusals.specs.Number.{number, read_table}
use Rattle.sender.proofs.open.Goals as goal

pub returns-then-clip-eq0 : goal.returns-then-clip-eq0
unfolding number read_table
returns-then-clip-eq0 c = rw (eq-eqb _ _ c.if-clip-eq0.true)

pub returns : goal.returns
returns c = rw (ne_eqb _ _ c.if-clip-eq0.false)
