-- `arguments::is_digit` meets its contract. Assumes nothing.
use borrow.Author.Tests.{lt-leb, le-leb}
use mathlib.Core.Path.{sym, ap}
use mathlib.Core.Bool.{Bool}
use lib.Dec.{leb}
use Rattle.laws.specs.Choice.{both}
use Rattle.arguments.proofs.is_digit.Goals as goal

pub returns-then-c-lt48 : goal.returns-then-c-lt48
returns-then-c-lt48 c = sym (ap (λ (b : Bool). both b (leb c.args.c 57)) (lt-leb 48 c.args.c c.if-c-lt48.true))

pub returns : goal.returns
returns c = sym (ap (λ (b : Bool). both b (leb c.args.c 57)) (le-leb 48 c.args.c c.if-c-lt48.false))
