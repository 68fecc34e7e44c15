-- `quantiser::cut::cut16` meets its contract: the two steps are the definition's, and each number is read back from its bits.
use borrow.Author.Rules.{rules}
use Rattle.quantiser.proofs.CutLaws.{cut_steps}
use Rattle.quantiser.proofs.cut.cut16.Goals as goal

pub returns : goal.returns
returns c =
    let f = c.ranges in cut_steps f.lowest f.highest f.z (search rules) (search rules) c.at_least16.ensures c.at_most16.ensures
