-- `bits::walk` meets its contract: by turns, each a step down the tree by the next bit.
use Prim.Native.Nat.{◌<◌}
use Rattle.bits.proofs.Turns.{Here}
use Rattle.bits.proofs.walk.Given as goal

abbrev pub invariant-loop-taken : goal.invariant-loop-taken
invariant-loop-taken l = (l.node < 256) × Here l.table l.tree l.bytes l.count l.root l.at l.node l.taken
