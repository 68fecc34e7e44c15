-- `h263_stream::bits_refused` meets its contract: by the number. Assumes nothing.
use Rattle.h263_stream.proofs.Dropped.{thirteen, not-thirteen}
use Rattle.h263_stream.proofs.bits_refused.Goals as goal

pub returns-then-number-eq13 : goal.returns-then-number-eq13
returns-then-number-eq13 c = thirteen _ c.args.all c.number_of-number.ensures c.if-number-eq13.true c.bits_to.ensures

pub returns : goal.returns
returns c = not-thirteen _ c.args.all c.number_of-number.ensures c.if-number-eq13.false
