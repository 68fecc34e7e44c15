-- `stream::ends_filled` meets its contract: it is true where no test fails, and then the window has the zeros. Assumes nothing.
use mathlib.Core.Path.{sym}
use borrow.Author.Tests.{eqb-true}
use Rattle.laws.proofs.Choice.{true-false}
use Rattle.stream.proofs.Fill.{fill_short}
use Rattle.stream.proofs.ends_filled.Goals as goal

pub returns-then-limit-count : goal.returns-then-limit-count
returns-then-limit-count c = λ e. absurd (true-false (sym e))

pub returns-then-bytes-count : goal.returns-then-bytes-count
returns-then-bytes-count c = λ e. absurd (true-false (sym e))

pub returns-then-count-ones : goal.returns-then-count-ones
returns-then-count-ones c = λ e. absurd (true-false (sym e))

pub returns-then-zeros-lt2 : goal.returns-then-zeros-lt2
returns-then-zeros-lt2 c = λ e. absurd (true-false (sym e))

pub returns-then-zeros-gt8 : goal.returns-then-zeros-gt8
returns-then-zeros-gt8 c = λ e. absurd (true-false (sym e))

pub returns : goal.returns
returns c =
    λ e. fill_short c.limit.ensures c.if-limit-count.false c.if-bytes-count.false c.if-count-ones.false c.if-zeros-lt2.false c.if-zeros-gt8.false c.window.ensures (eqb-true _ 0 e)
