-- `samples::rows::place` meets its contract: the plane starts where it says. Assumes nothing.
use Rattle.samples.proofs.rows.place.Goals as goal

pub place_from-requires : goal.place_from-requires
place_from-requires c = record { inside = c.requires; starts = c.start-start.ensures; apart = c.stride-stride.ensures }
