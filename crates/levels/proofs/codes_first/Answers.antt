-- `levels::codes_first` meets its contract: the first code of each block so far is no 0. Assumes nothing.
use Rattle.levels.proofs.Steps.{codes_no, codes_more, codes_done}
use Rattle.levels.proofs.codes_first.Goals as goal

pub returns-then-bytes-block-eq0 : goal.returns-then-bytes-block-eq0
returns-then-bytes-block-eq0 c = codes_no c.loop-block.invariant c.loop-block-test.true c.if-bytes-block-eq0.true

pub loop-block-preserved : goal.loop-block-preserved
loop-block-preserved c = codes_more c.loop-block.invariant c.loop-block-test.true c.if-bytes-block-eq0.false

pub returns : goal.returns
returns c = codes_done c.loop-block.invariant c.loop-block-test.false
