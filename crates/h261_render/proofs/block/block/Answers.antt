-- `h261_render::block::block` meets its contract: the block and where its vector points lie in the store. Assumes nothing.
use Prim.Native.Nat.{◌*◌}
use native.Mathlib.Omega.{arith}
use Rattle.size.proofs.Blocks.{on_small}
use Rattle.quantiser.specs.Level.{bytes_from}
use Rattle.samples.specs.Content.{difference_of}
use Rattle.samples.proofs.Corner.{Corner, block_fits, block_inside}
use Rattle.h261_groups.specs.Format.{size_of}
use Rattle.layout.specs.Value.{Vector}
use Rattle.h261_render.specs.Turn.{intra_of, vector_from}
use Rattle.h261_render.proofs.Predicted.{corner_for, inside_for, moved_inside, moved_room, block_drawn}
use Rattle.h261_render.proofs.block.block.Goals as goal
use Rattle.h261_render.proofs.block.block.Goals.{After-draw-arg-1, After-moved-along, After-slice_known-2-1}

abbrev vector : (s : After-moved-along) → Vector
vector s = vector_from s.args.horizontal s.args.vertical

abbrev vector-at2 : (s : After-draw-arg-1) → Vector
vector-at2 s = vector_from s.args.horizontal s.args.vertical

from : (c : After-draw-arg-1) → Corner (size_of c.args.format) c.args.plane c.moved-down.result c.moved-along.result c.place-from.result c.stride-stride.result
from c = corner_for c.args.format c.args.plane c.moved-down.result c.moved-along.result c.size_of-size.ensures c.place-from.ensures c.stride-stride.ensures

to : (c : After-draw-arg-1) → Corner (size_of c.args.format) c.args.plane (c.args.y * 8) (c.args.x * 8) c.place-to.result c.stride-stride.result
to c = corner_for c.args.format c.args.plane (c.args.y * 8) (c.args.x * 8) c.size_of-size.ensures c.place-to.ensures c.stride-stride.ensures

abbrev vector-at3 : (s : After-slice_known-2-1) → Vector
vector-at3 s = vector_from s.args.horizontal s.args.vertical

from-at2 : (c : After-slice_known-2-1) → Corner (size_of c.args.format) c.args.plane c.moved-down.result c.moved-along.result c.place-from.result c.stride-stride.result
from-at2 c = corner_for c.args.format c.args.plane c.moved-down.result c.moved-along.result c.size_of-size.ensures c.place-from.ensures c.stride-stride.ensures

to-at2 : (c : After-slice_known-2-1) → Corner (size_of c.args.format) c.args.plane (c.args.y * 8) (c.args.x * 8) c.place-to.result c.stride-stride.result
to-at2 c = corner_for c.args.format c.args.plane (c.args.y * 8) (c.args.x * 8) c.size_of-size.ensures c.place-to.ensures c.stride-stride.ensures

pub overflow_mul-y : goal.overflow_mul-y
overflow_mul-y c = omega (arith, on_small c.requires.on)

pub moved-down-requires : goal.moved-down-requires
moved-down-requires c = (omega (arith, on_small c.requires.on), c.requires.aims.top)

pub overflow_mul-x : goal.overflow_mul-x
overflow_mul-x c = omega (arith, on_small c.requires.on)

pub moved-along-requires : goal.moved-along-requires
moved-along-requires c = (omega (arith, on_small c.requires.on), c.requires.aims.left)

pub place-from-requires : goal.place-from-requires
place-from-requires c =
    inside_for c.args.format c.size_of-size.ensures
    (moved_inside c.args.format c.args.plane c.args.y c.args.x (vector c) c.moved-down.ensures c.moved-along.ensures c.requires.on c.requires.aims)

pub overflow_mul-y-2 : goal.overflow_mul-y-2
overflow_mul-y-2 c = omega (arith, on_small c.requires.on)

pub overflow_mul-x-2 : goal.overflow_mul-x-2
overflow_mul-x-2 c = omega (arith, on_small c.requires.on)

pub place-to-requires : goal.place-to-requires
place-to-requires c =
    inside_for c.args.format c.size_of-size.ensures (block_inside c.requires.on)

pub draw-requires : goal.draw-requires
draw-requires c =
    record {
      source = moved_room c.args.format c.args.plane c.args.y c.args.x (vector-at2 c) c.moved-down.ensures c.moved-along.ensures
          (from c) c.requires.on c.requires.aims c.requires.reference;
      target = block_fits (to c) c.requires.on c.requires.store;
      coded = c.requires.coded;
    }

pub returns : goal.returns
returns c =
    let prediction = c.args.prediction in
    block_drawn c.args.format c.args.plane c.args.y c.args.x (vector-at3 c) c.moved-down.ensures c.moved-along.ensures
    (from-at2 c) (to-at2 c) prediction c.args.reference.now
    (difference_of (bytes_from c.args.levels.now c.args.at) (intra_of prediction) c.args.quantiser) c.requires.on c.draw.ensures
