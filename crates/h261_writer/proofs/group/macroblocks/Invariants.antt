-- `group::macroblocks` meets its contract. The loop's invariant: what is written is the macroblocks before this address.
use Prim.Native.Nat.{◌-◌}
use Rattle.layout.specs.Flat.{macroblocks_in}
use Rattle.h261_description.specs.Vector.{at_start}
use Rattle.h261_writer.specs.Write.{macroblocks_of}
use Rattle.h261_writer.proofs.GroupTurn.{MacroblocksSoFar}
use Rattle.h261_writer.proofs.group.macroblocks.Given as goal

abbrev pub invariant-loop-k : goal.invariant-loop-k
invariant-loop-k l = MacroblocksSoFar (macroblocks_of at_start (macroblocks_in 33 1 l.fields l.levels)) l.fields l.levels l.initial.out l.at l.out l.last l.horizontal l.vertical l.place l.k
