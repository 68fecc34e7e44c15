-- `stream::begin` meets its contract. Assumes nothing.
use Rattle.stream.proofs.Pushed.{begins_in, begins_out}
use Rattle.stream.proofs.begin.Goals as goal

pub returns-then-picture-ge3 : goal.returns-then-picture-ge3
returns-then-picture-ge3 c = begins_in c.args.picture.now c.if-picture-ge3.true c.put.ensures

pub returns-else-picture-ge3 : goal.returns-else-picture-ge3
returns-else-picture-ge3 c = begins_out c.args.picture.now c.if-picture-ge3.false
