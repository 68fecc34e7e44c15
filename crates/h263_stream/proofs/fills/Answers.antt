-- `h263_stream::fills` meets its contract: the window has the zeros. Assumes nothing.
use Rattle.h263_stream.proofs.Dropped.{too_many, by_zeros}
use Rattle.h263_stream.proofs.fills.Goals as goal

pub returns-then-left-ge8 : goal.returns-then-left-ge8
returns-then-left-ge8 c =
    let a = c.args in
    too_many a.bytes.now a.all a.at c.left_from-left.ensures c.if-left-ge8.true

pub returns : goal.returns
returns c =
    let a = c.args in
    by_zeros a.bytes.now a.all a.at c.left_from-left.ensures c.if-left-ge8.false c.window.ensures
