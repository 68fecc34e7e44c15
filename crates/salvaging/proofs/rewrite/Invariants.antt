-- `salvaging::rewrite` meets its contract: block after block, what is written and entered so far and what the answers to come give are all. Assumes nothing.
use Prim.Native.Nat.{◌*◌}
use Rattle.standing.specs.Receive.{buffers}
use Rattle.salvaging.specs.Going.{SameLengths}
use Rattle.salvaging.proofs.Going.{Going}
use Rattle.salvaging.proofs.rewrite.Given as goal

abbrev pub invariant-loop-n : goal.invariant-loop-n
invariant-loop-n l =
    (Going l.clip l.blocks l.initial.receiver (buffers l.initial.collection l.initial.first l.initial.second) l.initial.out l.initial.log (512 * l.n) l.receiver (buffers l.collection l.first l.second) l.fate l.tally l.written l.entered l.out l.log)
    × (SameLengths (buffers l.initial.collection_ahead l.initial.first_ahead l.initial.second_ahead) (buffers l.collection_ahead l.first_ahead l.second_ahead))
