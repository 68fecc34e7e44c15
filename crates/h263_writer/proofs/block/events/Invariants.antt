-- `block::events` meets its contract. The loop's invariant: what is written is the coefficients before the one that waits.
use lib.ListN.{drop}
use Rattle.layout.specs.Flat.{gather}
use Rattle.h263_writer.specs.Write.{events_of}
use Rattle.h263_writer.proofs.BlockTurn.{EventsSoFar}
use Rattle.h263_writer.proofs.block.events.Given as goal

abbrev pub invariant-loop-k : goal.invariant-loop-k
invariant-loop-k l = EventsSoFar (events_of (gather 0 (drop l.from l.levels))) l.levels l.initial.out l.at l.out l.waiting l.before l.run l.k l.place
