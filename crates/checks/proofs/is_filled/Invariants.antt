-- The rest is filled where the whole is. Assumes nothing.
use Rattle.std.proofs.Common.{length}
use lib.ListN.{replicate}
use Rattle.text.proofs.Compared.{AlikeSoFar}
use Rattle.checks.proofs.is_filled.Given as goal

abbrev pub invariant-loop-byte : goal.invariant-loop-byte
invariant-loop-byte l = AlikeSoFar l.buffer (replicate (length l.buffer) l.value) l.byte-index
