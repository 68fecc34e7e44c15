-- `bch::turned` meets its contract.
use borrow.Author.Rules.{rules}
use Rattle.bch.proofs.TurnedBits.{turned_none, turned_one}
use Rattle.bch.proofs.turned.Goals as goal

pub returns-then-n-ge511 : goal.returns-then-n-ge511
returns-then-n-ge511 c = turned_none c.args.frame c.args.n c.if-n-ge511.true

pub overflow_sub-k : goal.overflow_sub-k
overflow_sub-k c = search rules

pub bounds-t-k : goal.bounds-t-k
bounds-t-k c = search rules

pub overflow_cast-t : goal.overflow_cast-t
overflow_cast-t c = search rules

pub overflow_shr-t : goal.overflow_shr-t
overflow_shr-t c = search rules

pub bounds-t-k-2 : goal.bounds-t-k-2
bounds-t-k-2 c = search rules

pub returns : goal.returns
returns c = turned_one c.args.frame c.args.n (search rules) c.if-n-ge511.false
