-- `h263_stream::bits_to` meets its contract. Assumes nothing.
use Rattle.h263_stream.proofs.StreamLaws.{picked, unpicked}
use Rattle.h263_stream.proofs.bits_to.Goals as goal

pub returns-then-is_dropped : goal.returns-then-is_dropped
returns-then-is_dropped c =
    let a = c.args in
    picked a.end a.all c.is_dropped.ensures c.if-is_dropped.true

pub returns : goal.returns
returns c =
    let a = c.args in
    unpicked a.end a.all c.is_dropped.ensures c.if-is_dropped.false
