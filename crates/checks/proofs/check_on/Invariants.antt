-- What the check makes of the rest is what h makes of all bytes. Assumes nothing.
use Rattle.checks.proofs.Turns.{CheckedSoFar}
use Rattle.checks.proofs.check_on.Given as goal

abbrev pub invariant-loop-byte : goal.invariant-loop-byte
invariant-loop-byte l = CheckedSoFar l.h l.bytes l.on l.byte-index
