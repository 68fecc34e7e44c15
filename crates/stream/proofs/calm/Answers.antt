-- `stream::calm` meets its contract: it is true where no test fails. Assumes nothing.
use mathlib.Core.Path.{sym}
use borrow.Author.Tests.{ltb-true}
use Rattle.laws.proofs.Choice.{true-false}
use Rattle.stream.proofs.calm.Goals as goal

pub returns-then-stream-le8 : goal.returns-then-stream-le8
returns-then-stream-le8 c = λ e. absurd (true-false (sym e))

pub returns-then-room-stream : goal.returns-then-room-stream
returns-then-room-stream c = λ e. absurd (true-false (sym e))

pub returns : goal.returns
returns c =
    λ e. record { busy = c.if-stream-le8.false; fits = c.if-room-stream.false; low = ltb-true c.args.stream.place 9223372036854775808 e }
