-- `levels::all_levels` meets its contract: all bytes are levels where the largest mark so far is 0 and the others are. Assumes nothing.
use Rattle.std.proofs.Common.{◌≡◌, drop}
use Rattle.laws.specs.Choice.{both}
use Rattle.layout.specs.Numbers.{all, is_zero, is_level}
use Rattle.levels.proofs.all_levels.Given as goal

abbrev pub invariant-loop-byte : goal.invariant-loop-byte
invariant-loop-byte l = all is_level l.bytes ≡ both (is_zero l.largest) (all is_level (drop l.byte-index l.bytes))
