-- `samples::levels::empty` meets its contract: the first level, then the others. Assumes nothing.
use Rattle.samples.proofs.Zeros.{first_not, first_none}
use Rattle.samples.proofs.levels.empty.Goals as goal

pub returns-then-levels-at-ne0 : goal.returns-then-levels-at-ne0
returns-then-levels-at-ne0 c = first_not c.args.levels.now c.args.at c.if-levels-at-ne0.true

pub returns : goal.returns
returns c = first_none c.args.levels.now c.args.at c.if-levels-at-ne0.false c.alone.ensures
