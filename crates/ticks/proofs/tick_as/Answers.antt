-- `ticks::tick_as` meets its contract: by whether it is exact. Assumes nothing.
use mathlib.Core.Path.{sym}
use Rattle.ticks.proofs.tick_as.Goals as goal

pub returns-then-exact : goal.returns-then-exact
returns-then-exact c = sym (rw c.if-exact.true)

pub returns : goal.returns
returns c = sym (rw c.if-exact.false)
