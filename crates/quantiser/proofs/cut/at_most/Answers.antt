-- `quantiser::cut::at_most` meets its contract: by the law of a test, one arm each.
use Rattle.quantiser.specs.Cut.{at_most}
use Rattle.quantiser.proofs.CutLaws.{test_true, test_false}
use Rattle.quantiser.proofs.cut.at_most.Goals as goal

pub returns-then-highest-z : goal.returns-then-highest-z
unfolding at_most
returns-then-highest-z c = let f = c.ranges in test_true f.highest f.z _ f.highest c.if-highest-z.true

pub returns-else-highest-z : goal.returns-else-highest-z
unfolding at_most
returns-else-highest-z c = let f = c.ranges in test_false f.highest f.z _ f.z c.if-highest-z.false
