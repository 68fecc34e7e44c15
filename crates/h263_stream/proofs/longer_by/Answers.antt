-- `h263_stream::longer_by` meets its contract. Assumes nothing.
use Rattle.h263_stream.proofs.StreamLaws.{longer}
use Rattle.h263_stream.proofs.longer_by.Goals as goal

pub returns : goal.returns
returns c =
    let a = c.args in
    longer a.stream a.byte c.one_more-place.ensures c.one_more-count.ensures
