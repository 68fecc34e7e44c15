-- `counting::reads` meets its contract: the scratch has room for any kind. Assumes nothing.
use Rattle.size.proofs.Room.{part_long}
use Rattle.coding.proofs.Scratch.{room_large, scratch_zeros}
use Rattle.std.proofs.Common.{arith}
use Rattle.counting.proofs.reads.Goals as goal
use Rattle.counting.proofs.reads.Goals.{After-levels_length-coefficients, After-head-1, After-macroblocks-1}

pub slice_bounds-head-end : goal.slice_bounds-head-end
slice_bounds-head-end c = omega (arith, c.head_length-heads.ensures, (room_large c.args.kind).head_room)

pub slice_bounds-parse_counted-end : goal.slice_bounds-parse_counted-end
slice_bounds-parse_counted-end c = part_long _ (slice_bounds-head-end (goal.at.slice_bounds-parse_counted-end c).After-levels_length-coefficients)

pub slice_bounds-macroblocks-end : goal.slice_bounds-macroblocks-end
slice_bounds-macroblocks-end c = omega (arith, c.macroblocks_length-fields.ensures, (room_large c.args.kind).macroblocks_room)

pub slice_bounds-parse_counted-end-2 : goal.slice_bounds-parse_counted-end-2
slice_bounds-parse_counted-end-2 c = part_long _ (slice_bounds-macroblocks-end (goal.at.slice_bounds-parse_counted-end-2 c).After-head-1)

pub slice_bounds-levels-end : goal.slice_bounds-levels-end
slice_bounds-levels-end c = omega (arith, c.levels_length-coefficients.ensures, (room_large c.args.kind).levels_room)

pub slice_bounds-parse_counted-end-3 : goal.slice_bounds-parse_counted-end-3
slice_bounds-parse_counted-end-3 c = part_long _ (slice_bounds-levels-end (goal.at.slice_bounds-parse_counted-end-3 c).After-macroblocks-1)

pub parse_counted-read-requires : goal.parse_counted-read-requires
parse_counted-read-requires c = scratch_zeros c.args.kind (room_large c.args.kind) c.head_length-heads.ensures c.macroblocks_length-fields.ensures c.levels_length-coefficients.ensures
