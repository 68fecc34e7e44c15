-- `standing::fail` meets its contract: field by field. Assumes nothing.
use Rattle.standing.proofs.fail.Goals as goal

pub returns : goal.returns
returns c =
    rw (c.with_progress-next.ensures, c.next_picture-onward.ensures)
