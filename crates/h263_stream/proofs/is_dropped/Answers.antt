-- `h263_stream::is_dropped` meets its contract. Assumes nothing.
use Rattle.h263_stream.proofs.StreamLaws.{either_first, either_then}
use Rattle.h263_stream.proofs.is_dropped.Goals as goal

pub returns-then-fills : goal.returns-then-fills
returns-then-fills c = either_first _ c.fills.ensures c.if-fills.true

pub returns : goal.returns
returns c = either_then c.fills.ensures c.if-fills.false c.ends_within.ensures
