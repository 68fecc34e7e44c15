-- The arrays have room for any size. Assumes nothing.
use Rattle.std.proofs.Common.{◌≤◌, arith}
use Rattle.size.proofs.Room.{part_long, store_most}
use Rattle.pack.proofs.record.Goals as goal

pub slice_bounds-all-end-2 : goal.slice_bounds-all-end-2
slice_bounds-all-end-2 g c =
    let room : c.store_length-samples.result ≤ 152064 = omega (arith, c.store_length-samples.ensures, store_most c.size_of-size.result) in
    part_long _ room

pub slice_bounds-all-end-3 : goal.slice_bounds-all-end-3
slice_bounds-all-end-3 g c =
    let room : c.store_length-samples.result ≤ 152064 = omega (arith, c.store_length-samples.ensures, store_most c.size_of-size.result) in
    part_long _ room
