-- `h263_validity::valid_gquants` meets its contract: the first is 0, and all are at most 31. Assumes nothing.
use Rattle.h263_validity.proofs.Steps.{gquant_first, gquants_rest}
use Rattle.h263_validity.proofs.valid_gquants.Goals as goal

pub returns-then-head-ne0 : goal.returns-then-head-ne0
returns-then-head-ne0 c = gquant_first c.args.head.now c.if-head-ne0.true

pub returns : goal.returns
returns c = gquants_rest c.args.head.now c.if-head-ne0.false c.low_gquants.ensures
