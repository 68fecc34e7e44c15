-- `standing::lose` meets its contract: field by field. Assumes nothing.
use Rattle.standing.proofs.lose.Goals as goal

pub returns : goal.returns
returns c = rw c.with_progress-next.ensures
