-- `quantiser::cut::at_least16` meets its contract: by the law of a test, one arm each.
use Rattle.quantiser.specs.Cut.{at_least}
use Rattle.quantiser.proofs.CutLaws.{test_true, test_false}
use Rattle.quantiser.proofs.cut.at_least16.Goals as goal

pub returns-then-z-lowest : goal.returns-then-z-lowest
unfolding at_least
returns-then-z-lowest c = let f = c.ranges in test_true f.z f.lowest _ f.lowest c.if-z-lowest.true

pub returns-else-z-lowest : goal.returns-else-z-lowest
unfolding at_least
returns-else-z-lowest c = let f = c.ranges in test_false f.z f.lowest _ f.z c.if-z-lowest.false
