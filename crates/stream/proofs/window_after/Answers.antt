-- `stream::window_after` meets its contract. Assumes nothing.
use Rattle.stream.proofs.Pushed.{window_one, window_zero}
use Rattle.stream.proofs.window_after.Goals as goal

pub returns-then-bit : goal.returns-then-bit
returns-then-bit c = window_one c.args.window c.if-bit.true

pub returns : goal.returns
returns c = window_zero c.args.window c.if-bit.false
