-- The scratch has room for the kind. Assumes nothing.
use Rattle.std.specs.Prelude.{ℕ}
use Rattle.std.proofs.Common.{◌≤◌, arith}
use Rattle.std.proofs.lemmas.List.{length-replicate}
use Rattle.size.proofs.Room.{part_long}
use Rattle.pack.proofs.recording.finish_with.Goals as goal

pub slice_bounds-finish_in-end-3 : goal.slice_bounds-finish_in-end-3
slice_bounds-finish_in-end-3 g c =
    let room : c.levels_length-coefficients.result ≤ _ = omega (arith, length-replicate {A = ℕ} g.row.LEVELS 0, c.levels_length-coefficients.ensures, c.requires.room.levels_room) in
    part_long _ room
