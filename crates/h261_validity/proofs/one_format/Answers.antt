-- `h261_validity::one_format` meets its contract: by the definition's tests of lengths.
use Rattle.layout.specs.Flat.{flat}
use Rattle.h261_validity.proofs.Named.{one_first, one_second}
use Rattle.h261_validity.proofs.one_format.Goals as goal

pub returns-then-lengths : goal.returns-then-lengths
returns-then-lengths c =
    let a = c.args in
    one_first (flat a.head.now a.macroblocks.now a.levels.now) c.lengths.ensures c.if-lengths.true

pub returns : goal.returns
returns c =
    let a = c.args in
    one_second (flat a.head.now a.macroblocks.now a.levels.now) c.lengths.ensures c.if-lengths.false c.lengths-2.ensures
