-- `h263_render::block::block` meets its contract: by whether it is INTRA; what is sent is drawn over the prediction. Assumes nothing.
use Prim.Native.Nat.{◌*◌}
use native.Mathlib.Omega.{arith}
use Rattle.size.proofs.Blocks.{on_small}
use Rattle.quantiser.specs.Level.{bytes_from}
use Rattle.samples.proofs.Added.{fits_still}
use Rattle.samples.proofs.Corner.{Corner, corner, block_fits, block_inside}
use Rattle.layout.specs.Value.{Vector}
use Rattle.layout.specs.Flat.{byte_vector}
use Rattle.h263_render.proofs.Predicted.{intra_block, inter_block}
use Rattle.h263_render.proofs.block.block.Goals as goal
use Rattle.h263_render.proofs.block.block.Goals.{After-draw-arg-1, After-draw-arg-2-1, After-slice_known-3-1, After-slice_known-then-intra-1}

to : (c : After-draw-arg-1) → Corner c.args.size c.args.plane (c.args.y * 8) (c.args.x * 8) c.place_from-to.result c.stride-stride.result
to c = corner c.args.size c.args.plane (c.args.y * 8) (c.args.x * 8) c.place_from-to.ensures c.stride-stride.ensures

abbrev vector : (s : After-slice_known-then-intra-1) → Vector
vector s = byte_vector s.args.horizontal s.args.vertical

to-at2 : (c : After-slice_known-then-intra-1) → Corner c.args.size c.args.plane (c.args.y * 8) (c.args.x * 8) c.place_from-to.result c.stride-stride.result
to-at2 c = corner c.args.size c.args.plane (c.args.y * 8) (c.args.x * 8) c.place_from-to.ensures c.stride-stride.ensures

to-at3 : (c : After-draw-arg-2-1) → Corner c.args.size c.args.plane (c.args.y * 8) (c.args.x * 8) c.place_from-to.result c.stride-stride.result
to-at3 c = corner c.args.size c.args.plane (c.args.y * 8) (c.args.x * 8) c.place_from-to.ensures c.stride-stride.ensures

abbrev vector-at2 : (s : After-slice_known-3-1) → Vector
vector-at2 s = byte_vector s.args.horizontal s.args.vertical

to-at4 : (c : After-slice_known-3-1) → Corner c.args.size c.args.plane (c.args.y * 8) (c.args.x * 8) c.place_from-to.result c.stride-stride.result
to-at4 c = corner c.args.size c.args.plane (c.args.y * 8) (c.args.x * 8) c.place_from-to.ensures c.stride-stride.ensures

pub start-start-requires : goal.start-start-requires
start-start-requires c = (block_inside c.requires.on).plane

pub overflow_mul-y : goal.overflow_mul-y
overflow_mul-y c = omega (arith, on_small c.requires.on)

pub overflow_mul-x : goal.overflow_mul-x
overflow_mul-x c = omega (arith, on_small c.requires.on)

pub place_from-to-requires : goal.place_from-to-requires
place_from-to-requires c =
    record { inside = block_inside c.requires.on; starts = c.start-start.ensures; apart = c.stride-stride.ensures }

pub draw-requires : goal.draw-requires
draw-requires c =
    record { target = block_fits (to c) c.requires.on c.requires.store; coded = c.requires.coded }

pub returns-then-intra : goal.returns-then-intra
returns-then-intra c =
    intra_block c.args.size c.args.plane c.args.y c.args.x (vector c) c.args.reference.now (bytes_from c.args.levels.now c.args.at) c.args.quantiser
    (to-at2 c) c.requires.on c.if-intra.true c.draw.ensures

pub predict-requires : goal.predict-requires
predict-requires c =
    record {
      reference = c.requires.reference;
      store = c.requires.store;
      on = c.requires.on;
      aims = c.requires.aims c.if-intra.false;
      corner = c.place_from-to.ensures;
      starts = c.start-start.ensures;
      apart = c.stride-stride.ensures;
    }

pub draw-requires-2 : goal.draw-requires-2
draw-requires-2 c =
    record { target = fits_still c.predict.ensures.size (block_fits (to-at3 c) c.requires.on c.requires.store); coded = c.requires.coded }

pub returns : goal.returns
returns c =
    inter_block c.args.size c.args.plane c.args.y c.args.x (vector-at2 c) c.args.reference.now (bytes_from c.args.levels.now c.args.at) c.args.quantiser
    (to-at4 c) c.requires.on c.if-intra.false c.predict.ensures c.draw-2.ensures
