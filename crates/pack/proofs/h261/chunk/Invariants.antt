-- Ends: each turn goes on by a bit at least. Assumes nothing.
use Rattle.std.proofs.Common.{◌-◌, ◌*◌, length}
use Rattle.pack.proofs.h261.chunk.Given as goal

abbrev pub decreases-loop-at : goal.decreases-loop-at
decreases-loop-at g l = 8 * length l.bytes - l.at
