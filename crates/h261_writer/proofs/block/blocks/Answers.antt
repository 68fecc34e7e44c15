-- `block::blocks` meets its contract. The loop's invariant: what is written is the blocks before this one.
use mathlib.Core.Path.{sym}
use native.Mathlib.Omega.{arith}
use Rattle.bits.proofs.Appended.{wrote_as}
use Rattle.bits.proofs.Parts.{parts_begin, parts_done, parts_next, parts_more}
use Rattle.h261_writer.proofs.BlockTurn.{blocks_are, blocks_count, block_asked}
use Rattle.h261_writer.proofs.block.blocks.Goals as goal

pub loop-b-init : goal.loop-b-init
loop-b-init c = parts_begin _ 6 _ _

pub slice_bounds-block-end : goal.slice_bounds-block-end
slice_bounds-block-end c = omega (arith, c.requires.long, c.loop-b-test.true)

pub block-place-requires : goal.block-place-requires
block-place-requires c =
    block_asked c.requires c.loop-b.b c.loop-b-test.true (parts_next c.loop-b.invariant c.loop-b-test.true (blocks_count c.requires))

pub loop-b-preserved : goal.loop-b-preserved
loop-b-preserved c = parts_more c.loop-b.invariant c.loop-b-test.true c.block-place.ensures

pub returns : goal.returns
returns c = wrote_as (parts_done c.loop-b.invariant c.loop-b-test.false) (sym (blocks_are c.args.intra c.args.levels.now))
