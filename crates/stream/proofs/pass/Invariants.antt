-- `stream::pass` meets its contract: whole bytes where it is calm, else a bit, up to the next start code. Assumes nothing.
use Prim.Native.Nat.{◌-◌, ◌*◌}
use lib.ListN.{length}
use Rattle.stream.specs.Bytes.{Reaches}
use Rattle.stream.proofs.pass.Given as goal

abbrev pub invariant-loop-i : goal.invariant-loop-i
invariant-loop-i l = Reaches l.bytes l.initial.next l.at l.initial.picture l.next l.i l.picture

abbrev pub decreases-loop-i : goal.decreases-loop-i
decreases-loop-i l = 8 * length l.bytes - l.i
