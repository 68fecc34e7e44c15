-- `h263_stream::completes` meets its contract. Assumes nothing.
use Rattle.h263_stream.proofs.StreamLaws.{either_first, either_then}
use Rattle.h263_stream.proofs.completes.Goals as goal

pub returns-then-starts : goal.returns-then-starts
returns-then-starts c = either_first _ c.starts.ensures c.if-starts.true

pub returns : goal.returns
returns c = either_then c.starts.ensures c.if-starts.false c.ends.ensures
