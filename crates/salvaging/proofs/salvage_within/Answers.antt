-- `salvaging::salvage_within` meets its contract: the scratch has room for the kind. Assumes nothing.
use Rattle.salvaging.proofs.Outcomes.{scratch_blank}
use Rattle.size.proofs.Room.{part_long}
use Rattle.size.specs.Size.{store_length, collection_length}
use mathlib.Core.Path.{ap, ◌∙◌}
use native.Mathlib.Omega.{arith}
use Rattle.salvaging.proofs.salvage_within.Goals as goal

pub salvage_in-requires : goal.salvage_in-requires
salvage_in-requires g c =
    let size = c.size_of-size.ensures in
    let blank = scratch_blank c.requires.room (c.collection_length-parts.ensures ∙ ap collection_length size) (c.store_length-samples.ensures ∙ ap store_length size) in
    record { named = c.requires.named; blank = blank; blank_ahead = blank }
