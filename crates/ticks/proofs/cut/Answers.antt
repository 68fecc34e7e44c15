-- `ticks::cut` meets its contract: by its test. Assumes nothing.
use mathlib.Core.Path.{sym}
use borrow.Author.Tests.{lt-ltb, le-ltb}
use Rattle.ticks.proofs.cut.Goals as goal

pub returns-then-n-lt4294967295 : goal.returns-then-n-lt4294967295
returns-then-n-lt4294967295 c = sym (rw (lt-ltb _ _ c.if-n-lt4294967295.true))

pub returns : goal.returns
returns c = sym (rw (le-ltb _ _ c.if-n-lt4294967295.false))
