-- `salvaging::kept_entries` meets its contract: by whether numbers are skipped. Assumes nothing.
use borrow.Author.Tests.{lt-ltb, le-ltb}
use mathlib.Core.Path.{sym}
use Rattle.salvaging.proofs.kept_entries.Goals as goal

pub returns-then-next-old : goal.returns-then-next-old
returns-then-next-old c = sym (rw (lt-ltb _ _ c.if-next-old.true))

pub returns : goal.returns
returns c = sym (rw (le-ltb _ _ c.if-next-old.false))
