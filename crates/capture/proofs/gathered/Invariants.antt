-- `capture::gathered` meets its contract: three bytes a turn, each eight bits of the capture.
use Prim.Native.Nat.{◌*◌}
use Rattle.capture.proofs.Gather.{Gathered}
use Rattle.capture.proofs.gathered.Given as goal

abbrev pub invariant-loop-i : goal.invariant-loop-i
invariant-loop-i l = Gathered l.capture l.at (3 * l.i) l.frame
