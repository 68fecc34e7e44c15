-- `bits::append` meets its contract: all of the bits, the first of them, or none are put, by the room that there is.
use native.Mathlib.Omega.{arith}
use Rattle.bits.proofs.Appended.{field_whole, field_none, part_fits, field_part}
use Rattle.bits.proofs.append.Goals as goal

pub returns-then-after-out : goal.returns-then-after-out
returns-then-after-out c =
    field_whole c.requires.0 c.args.out.now c.args.at c.if-after-out.true c.put.ensures

pub put-requires-then-at-out : goal.put-requires-then-at-out
put-requires-then-at-out c =
    (part_fits c.requires.0 c.args.out.now c.args.at c.if-after-out.false c.if-at-out.true, omega arith)

pub returns-then-at-out : goal.returns-then-at-out
returns-then-at-out c =
    field_part c.requires.0 c.args.out.now c.args.at c.if-after-out.false c.if-at-out.true c.put-then-at-out.ensures

pub returns-else-at-out : goal.returns-else-at-out
returns-else-at-out c = field_none c.requires.0 c.args.out.now c.args.at c.if-after-out.false c.if-at-out.false
