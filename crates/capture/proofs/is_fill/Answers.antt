-- `capture::is_fill` meets its contract: bit 1 of the frame is bit 6 of its first byte.
use mathlib.Core.Path.{refl}
use Rattle.bits.specs.Bits.{bit_num}
use Rattle.capture.proofs.is_fill.Goals as goal

pub returns : goal.returns
unfolding bit_num
returns c = refl
