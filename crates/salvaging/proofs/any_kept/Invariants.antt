-- `salvaging::any_kept` meets its contract: block after block, the answers to come tell whether any picture is kept. Assumes nothing.
use lib.ListN.{length}
use Rattle.std.specs.Slice.Iter.{chunks_exact_rest}
use Rattle.standing.specs.Receive.{buffers}
use Rattle.salvaging.proofs.Going.{AnyGoing}
use Rattle.salvaging.proofs.Blocks.{BlocksLeft, at_of}
use Rattle.salvaging.proofs.any_kept.Given as goal

abbrev pub invariant-loop-block : goal.invariant-loop-block
invariant-loop-block l =
    BlocksLeft l.blocks l.block-iterator
    × AnyGoing l.blocks l.initial.receiver (buffers l.initial.collection l.initial.first l.initial.second) (at_of l.blocks l.block-iterator) l.receiver (buffers l.collection l.first l.second)

abbrev pub decreases-loop-block : goal.decreases-loop-block
decreases-loop-block l = length (chunks_exact_rest l.block-iterator)
