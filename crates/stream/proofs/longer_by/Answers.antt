-- `stream::longer_by` meets its contract. Assumes nothing.
use Rattle.stream.proofs.Pushed.{longer}
use Rattle.stream.proofs.longer_by.Goals as goal

pub returns-then-bit : goal.returns-then-bit
returns-then-bit c =
    longer c.args.stream c.args.bit c.one_more-place.ensures c.window_after-window.ensures c.one_more-count.ensures
    c.if-bit.true

pub returns : goal.returns
returns c =
    longer c.args.stream c.args.bit c.one_more-place.ensures c.window_after-window.ensures c.one_more-count.ensures
    c.if-bit.false
