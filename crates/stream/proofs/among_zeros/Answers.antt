-- `stream::among_zeros` meets its contract. Assumes nothing.
use Rattle.stream.proofs.Unfilled.{not_below, not_above, by_place}
use Rattle.stream.proofs.among_zeros.Goals as goal

pub returns-then-number-lt3 : goal.returns-then-number-lt3
returns-then-number-lt3 c = not_below c.args.why c.args.ones c.number_of-number.ensures c.if-number-lt3.true

pub returns-then-number-gt13 : goal.returns-then-number-gt13
returns-then-number-gt13 c = not_above c.args.why c.args.ones c.number_of-number.ensures c.if-number-gt13.true

pub returns : goal.returns
returns c = by_place c.args.why c.args.ones c.number_of-number.ensures c.if-number-lt3.false c.if-number-gt13.false
