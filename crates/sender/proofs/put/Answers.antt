-- `sender::put` meets its contract: the blocks in the output, the picture in a store, the next state. Assumes nothing.
use Rattle.layout.specs.Flat.{flat}
use Rattle.coding.specs.Kind.{coding_of}
use Rattle.sender.proofs.Laws.{came_sent}
use Rattle.sender.specs.Send.{buffers}
use Rattle.sender.proofs.put.Goals as goal

pub blocks-blocks-requires : goal.blocks-blocks-requires
blocks-blocks-requires c =
    record { numbered = c.requires.counted; short = c.requires.short; held = c.requires.held; room = c.requires.room }

pub keep-requires : goal.keep-requires
keep-requires c =
    record { valid_is = c.requires.valid_is; reference_long = c.requires.first_long; store_long = c.requires.second_long }

pub returns : goal.returns
returns c =
    came_sent coding_of c.args.sender (flat c.args.head.now c.args.macroblocks.now c.args.levels.now) (buffers c.args.out.now c.args.first.now c.args.second.now) c.requires c.standard_of-standard.ensures c.blocks-blocks.ensures.value c.blocks-blocks.ensures.out_after c.keep.ensures c.number_on-next.ensures
