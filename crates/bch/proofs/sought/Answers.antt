-- `bch::sought` meets its contract.
use native.Mathlib.Omega.{arith}
use borrow.Author.Rules.{rules}
use Rattle.bch.proofs.Lookups.{seek_one, sought_two, low}
use Rattle.bch.proofs.sought.Goals as goal

pub overflow_add-lag : goal.overflow_add-lag
overflow_add-lag c = search rules

pub overflow_sub-lag : goal.overflow_sub-lag
overflow_sub-lag c = search rules

pub returns-then-lag-eq0 : goal.returns-then-lag-eq0
returns-then-lag-eq0 c = seek_one c.args.u c.args.v c.if-lag-eq0.true

pub overflow_add-lag-2 : goal.overflow_add-lag-2
overflow_add-lag-2 c = search rules

pub entry-requires : goal.entry-requires
entry-requires c = search rules

pub overflow_add-m : goal.overflow_add-m
overflow_add-m c = omega (arith, low c.requires.0 _ c.entry.ensures)

pub overflow_add-lag-3 : goal.overflow_add-lag-3
overflow_add-lag-3 c = search rules

pub entry-requires-2 : goal.entry-requires-2
entry-requires-2 c = search rules

pub overflow_add-n : goal.overflow_add-n
overflow_add-n c = omega (arith, low c.requires.0 _ c.entry-2.ensures)

pub returns-then-m-n : goal.returns-then-m-n
returns-then-m-n c =
    sought_two c.requires.0 c.args.u c.args.v _ _ _ _ c.if-lag-eq0.false c.entry.ensures
    c.entry-2.ensures (omega arith) (omega arith)

pub returns-else-m-n : goal.returns-else-m-n
returns-else-m-n c =
    sought_two c.requires.0 c.args.u c.args.v _ _ _ _ c.if-lag-eq0.false c.entry.ensures
    c.entry-2.ensures (omega arith) (omega arith)
