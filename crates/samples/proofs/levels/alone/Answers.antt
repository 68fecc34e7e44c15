-- `samples::levels::alone` meets its contract: the 63 later levels are the next seven and the rest. Assumes nothing.
use Rattle.samples.proofs.Zeros.{none_near, none_far}
use Rattle.samples.proofs.levels.alone.Goals as goal

pub returns-then-united-ne0 : goal.returns-then-united-ne0
returns-then-united-ne0 c = none_near c.args.levels.now c.args.at c.united.ensures c.if-united-ne0.true

pub returns : goal.returns
returns c =
    none_far c.args.levels.now c.args.at c.united.ensures c.if-united-ne0.false c.united-2.ensures
