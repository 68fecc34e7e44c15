-- `capture::bit` meets its contract: the code is the definition.
use mathlib.Core.Path.{ap}
use Prim.Native.Nat.{ℕ, ◌-◌, ◌/◌, ◌%◌, ◌^◌}
use Rattle.bits.specs.Bits.{bit_num}
use Rattle.capture.proofs.bit.Goals as goal

pub returns : goal.returns
unfolding bit_num
returns c = ap (λ (b : ℕ). b / 2 ^ (7 - c.args.at % 8) % 2) c.from.ensures
