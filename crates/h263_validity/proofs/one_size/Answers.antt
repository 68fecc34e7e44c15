-- `h263_validity::one_size` meets its contract: by the definition's tests of lengths, one size after another.
use Rattle.layout.specs.Flat.{Flat, flat}
use Rattle.h263_validity.proofs.Named.{one_first, one_second, one_third}
use Rattle.h263_validity.proofs.one_size.Goals as goal
use Rattle.h263_validity.proofs.one_size.Goals.{After-lengths-3, Then-lengths, Then-lengths-2}

abbrev description : (s : Then-lengths) → Flat
description s = flat s.args.head.now s.args.macroblocks.now s.args.levels.now

abbrev description-at2 : (s : Then-lengths-2) → Flat
description-at2 s = flat s.args.head.now s.args.macroblocks.now s.args.levels.now

abbrev description-at3 : (s : After-lengths-3) → Flat
description-at3 s = flat s.args.head.now s.args.macroblocks.now s.args.levels.now

pub returns-then-lengths : goal.returns-then-lengths
returns-then-lengths c =
    one_first (description c) c.lengths.ensures c.if-lengths.true

pub returns-then-lengths-2 : goal.returns-then-lengths-2
returns-then-lengths-2 c =
    one_second (description-at2 c) c.lengths.ensures c.if-lengths.false c.lengths-2.ensures c.if-lengths-2.true

pub returns : goal.returns
returns c =
    one_third (description-at3 c) c.lengths.ensures c.if-lengths.false c.lengths-2.ensures c.if-lengths-2.false c.lengths-3.ensures
