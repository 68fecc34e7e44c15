-- `block::blocks` meets its contract. The loop's invariant: what is written is the blocks before this one.
use Prim.Native.Nat.{◌-◌}
use Rattle.bits.proofs.Parts.{PartsSoFar}
use Rattle.h261_writer.proofs.BlockTurn.{block_at}
use Rattle.h261_writer.proofs.block.blocks.Given as goal

abbrev pub invariant-loop-b : goal.invariant-loop-b
invariant-loop-b l = PartsSoFar (block_at l.intra l.levels) 6 l.initial.out l.at l.out l.place l.b
