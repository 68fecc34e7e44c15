-- `standing::take` meets its contract: field by field. Assumes nothing.
use Rattle.standing.proofs.take.Goals as goal

pub returns : goal.returns
returns c =
    rw (c.with_progress-next.ensures, c.next_part-ahead.ensures)
