-- `vault::low_marks` meets its contract: the four cases. Assumes nothing.
use Rattle.vault.proofs.low_marks.Goals as goal

pub returns-then-header-2 : goal.returns-then-header-2
returns-then-header-2 c = rw (c.if-header.true, c.if-header-2.true)

pub returns-then-header : goal.returns-then-header
returns-then-header c = rw (c.if-header.true, c.if-header-2.false)

pub returns-then-header-3 : goal.returns-then-header-3
returns-then-header-3 c = rw (c.if-header.false, c.if-header-3.true)

pub returns : goal.returns
returns c = rw (c.if-header.false, c.if-header-3.false)
