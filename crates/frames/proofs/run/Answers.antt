-- `frames::run` meets its contract: the arrays have room for any size.
use Rattle.std.proofs.Common.{arith}
use Rattle.size.proofs.Room.{part_long, store_most}
use Rattle.frames.proofs.run.Goals as goal

pub slice_bounds-all-end-2 : goal.slice_bounds-all-end-2
slice_bounds-all-end-2 g c = part_long _ (omega (arith, c.store_length-samples.ensures, store_most c.args.size))

pub slice_bounds-all-end-3 : goal.slice_bounds-all-end-3
slice_bounds-all-end-3 g c = part_long _ (omega (arith, c.store_length-samples.ensures, store_most c.args.size))
