-- Ends: each turn goes on by a byte at least. Assumes nothing.
use Rattle.std.proofs.Common.{◌-◌, length}
use Rattle.pack.proofs.h263.chunk.Given as goal

abbrev pub decreases-loop-at : goal.decreases-loop-at
decreases-loop-at g l = length l.bytes - l.at
