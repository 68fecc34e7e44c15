-- `frames::grey_frames` meets its contract: the array has room for any size.
use Rattle.std.proofs.Common.{arith}
use Rattle.size.proofs.Room.{part_long, store_most}
use Rattle.frames.proofs.grey_frames.Goals as goal

pub slice_bounds-frames-end : goal.slice_bounds-frames-end
slice_bounds-frames-end g c = part_long _ (omega (arith, c.store_length-samples.ensures, store_most c.args.size))
