-- `h263_render::block::predict` meets its contract: the half samples from where the vector points are the source. Assumes nothing.
use Prim.Native.Nat.{◌/◌, ◌*◌}
use native.Mathlib.Omega.{arith}
use Rattle.size.proofs.Blocks.{on_small}
use Rattle.samples.proofs.Corner.{Corner, corner}
use Rattle.layout.specs.Value.{Vector}
use Rattle.layout.specs.Flat.{byte_vector}
use Rattle.h263_render.proofs.Place.{reach_moves}
use Rattle.h263_render.proofs.Predicted.{moved_inside, moved_halves, source_put}
use Rattle.h263_render.proofs.block.predict.Goals as goal
use Rattle.h263_render.proofs.block.predict.Goals.{After-half_place-along, After-put-arg-1, After-slice_known-2-1}

abbrev vector : (s : After-half_place-along) → Vector
vector s = byte_vector s.args.horizontal s.args.vertical

abbrev vector-at2 : (s : After-put-arg-1) → Vector
vector-at2 s = byte_vector s.args.horizontal s.args.vertical

from : (c : After-put-arg-1) → Corner c.args.size c.args.plane (c.half_place-down.result / 2) (c.half_place-along.result / 2) c.place_from-from.result c.args.stride
from c = corner c.args.size c.args.plane (c.half_place-down.result / 2) (c.half_place-along.result / 2) c.place_from-from.ensures c.requires.apart

to : (s : After-put-arg-1) → Corner s.args.size s.args.plane (s.args.y * 8) (s.args.x * 8) s.args.to s.args.stride
to s = corner s.args.size s.args.plane (s.args.y * 8) (s.args.x * 8) s.requires.corner s.requires.apart

abbrev vector-at3 : (s : After-slice_known-2-1) → Vector
vector-at3 s = byte_vector s.args.horizontal s.args.vertical

from-at2 : (c : After-slice_known-2-1) → Corner c.args.size c.args.plane (c.half_place-down.result / 2) (c.half_place-along.result / 2) c.place_from-from.result c.args.stride
from-at2 c = corner c.args.size c.args.plane (c.half_place-down.result / 2) (c.half_place-along.result / 2) c.place_from-from.ensures c.requires.apart

pub overflow_mul-y : goal.overflow_mul-y
overflow_mul-y c = omega (arith, on_small c.requires.on)

pub half_place-down-requires : goal.half_place-down-requires
half_place-down-requires c =
    reach_moves c.requires.aims.down (omega arith) (omega (arith, on_small c.requires.on))

pub overflow_mul-x : goal.overflow_mul-x
overflow_mul-x c = omega (arith, on_small c.requires.on)

pub half_place-along-requires : goal.half_place-along-requires
half_place-along-requires c =
    reach_moves c.requires.aims.across (omega arith) (omega (arith, on_small c.requires.on))

pub place_from-from-requires : goal.place_from-from-requires
place_from-from-requires c =
    record {
      inside = moved_inside c.args.size c.args.plane c.args.y c.args.x (vector c) c.half_place-down.ensures c.half_place-along.ensures c.requires.aims c.requires.on;
      starts = c.requires.starts;
      apart = c.requires.apart;
    }

pub put-requires : goal.put-requires
put-requires c =
    moved_halves c.args.size c.args.plane c.args.y c.args.x (vector-at2 c) c.half_place-down.ensures c.half_place-along.ensures c.requires.aims
    (from c) (to c) c.requires.on c.requires.reference c.requires.store

pub returns : goal.returns
returns c =
    source_put c.args.size c.args.plane c.args.y c.args.x (vector-at3 c) c.half_place-down.ensures c.half_place-along.ensures c.requires.aims
    (from-at2 c) c.args.reference.now c.put.ensures
