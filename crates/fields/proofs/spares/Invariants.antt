-- `fields::spares` meets its contract: each turn of the loop reads PEI or GEI, and where it is 1 eight bits more; what is left to read gets shorter.
use Prim.Native.Nat.{◌-◌}
use Rattle.bits.specs.Bits.{bits_left}
use Rattle.fields.specs.Rules.{spares}
use Rattle.fields.proofs.RuleTurn.{SparesSoFar}
use Rattle.fields.proofs.spares.Given as goal

abbrev pub invariant-loop-bit : goal.invariant-loop-bit
invariant-loop-bit l = SparesSoFar (spares (bits_left l.bytes l.count l.initial.at.bit) l.initial.at) l.bytes l.count l.at

abbrev pub decreases-loop-bit : goal.decreases-loop-bit
decreases-loop-bit l = l.count - l.at.bit
