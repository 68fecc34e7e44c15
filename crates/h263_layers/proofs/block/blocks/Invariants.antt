-- `h263_layers::block::blocks` meets its contract: by turns over the six bits of the pattern.
use lib.ListN.{length}
use Rattle.bits.specs.Bits.{bits_of, bits_left}
use Rattle.fields.specs.Answer.{map_read}
use Rattle.layout.specs.Flat.{put_blocks}
use Rattle.h263_layers.specs.Grammar.{blocks_read}
use Rattle.h263_layers.proofs.BlocksTurn.{BlocksSoFar}
use Rattle.h263_layers.proofs.block.blocks.Given as goal

abbrev pub invariant-loop-b : goal.invariant-loop-b
invariant-loop-b l =
    BlocksSoFar (map_read (put_blocks l.initial.levels l.base) (blocks_read l.intra (bits_of 6 l.pattern) (bits_left l.bytes l.count l.initial.place.bit) l.initial.place)) (length l.initial.levels) l.bytes l.count l.intra l.pattern l.base
    l.levels l.b l.place
