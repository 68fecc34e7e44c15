-- `h263_layers::macroblock::opened` meets its contract: each turn of the loop reads a header, where one may stand, and what stands after it; stuffing alone makes another turn.
use Prim.Native.Nat.{◌-◌}
use Rattle.bits.specs.Bits.{bits_left}
use Rattle.h263_layers.specs.Grammar.{opened}
use Rattle.h263_layers.proofs.OpenedTurn.{OpenedSoFar}
use Rattle.h263_layers.proofs.macroblock.opened.Given as goal

abbrev pub invariant-loop-quantiser : goal.invariant-loop-quantiser
invariant-loop-quantiser l = OpenedSoFar (opened l.intra l.number l.address l.gquant (bits_left l.bytes l.count l.initial.place.bit) l.initial.place) l.bytes l.count l.intra l.number l.address l.standing l.place

abbrev pub decreases-loop-quantiser : goal.decreases-loop-quantiser
decreases-loop-quantiser l = l.count - l.place.bit
