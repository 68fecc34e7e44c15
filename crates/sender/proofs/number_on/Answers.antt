-- `sender::number_on` meets its contract: field by field. Assumes nothing.
use Rattle.sender.proofs.number_on.Goals as goal

pub returns : goal.returns
returns c = rw c.goes_into-holder.ensures
