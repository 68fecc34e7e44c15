-- `h263_stream::ended_by` meets its contract. Assumes nothing.
use Rattle.h263_stream.proofs.StreamLaws.{ended}
use Rattle.h263_stream.proofs.ended_by.Goals as goal

pub returns : goal.returns
returns c =
    let a = c.args in
    ended a.stream a.byte c.one_more-place.ensures
