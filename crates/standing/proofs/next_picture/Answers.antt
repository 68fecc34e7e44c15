-- `standing::next_picture` meets its contract: field by field. Assumes nothing.
use Rattle.standing.proofs.next_picture.Goals as goal

pub returns : goal.returns
returns c =
    rw c.mark_with-mark.ensures
