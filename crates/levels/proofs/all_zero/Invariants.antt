-- `levels::all_zero` meets its contract: all bytes are 0 where the largest so far is and the others are. Assumes nothing.
use Rattle.std.proofs.Common.{◌≡◌, drop}
use Rattle.laws.specs.Choice.{both}
use Rattle.layout.specs.Numbers.{all, is_zero}
use Rattle.levels.proofs.all_zero.Given as goal

abbrev pub invariant-loop-byte : goal.invariant-loop-byte
invariant-loop-byte l = all is_zero l.bytes ≡ both (is_zero l.largest) (all is_zero (drop l.byte-index l.bytes))
