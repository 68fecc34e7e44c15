-- `h263_stream::ends_after` meets its contract: the first window has the sixteen zeros, the second the other zeros and the ones. Assumes nothing.
use Rattle.h263_stream.proofs.Dropped.{too_few, no_zeros, by_ones}
use Rattle.h263_stream.proofs.ends_after.Goals as goal

pub returns-then-left-zeros : goal.returns-then-left-zeros
returns-then-left-zeros c =
    let a = c.args in
    too_few a.bytes.now a.all a.at c.left_from-left.ensures a.zeros c.if-left-zeros.true

pub returns-then-window-ne0 : goal.returns-then-window-ne0
returns-then-window-ne0 c =
    let a = c.args in
    no_zeros a.bytes.now a.all a.at c.left_from-left.ensures a.zeros c.if-left-zeros.false c.window.ensures c.if-window-ne0.true

pub returns : goal.returns
returns c =
    let a = c.args in
    by_ones a.bytes.now a.all a.at c.left_from-left.ensures a.zeros c.if-left-zeros.false c.window.ensures c.requires c.if-window-ne0.false c.window-2.ensures
