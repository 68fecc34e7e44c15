-- `stream::begun_by` meets its contract. Assumes nothing.
use Rattle.stream.proofs.Pushed.{begun}
use Rattle.stream.proofs.begun_by.Goals as goal

pub returns : goal.returns
returns c = begun c.args.stream c.args.bit c.one_more-place.ensures c.window_after-window.ensures c.offset_of-offset.ensures
