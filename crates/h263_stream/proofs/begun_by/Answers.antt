-- `h263_stream::begun_by` meets its contract. Assumes nothing.
use Rattle.h263_stream.proofs.StreamLaws.{begun}
use Rattle.h263_stream.proofs.begun_by.Goals as goal

pub returns : goal.returns
returns c =
    let a = c.args in
    begun a.stream a.byte c.one_more-place.ensures c.left_from-offset.ensures
