-- `quantiser::dequantise::level` meets its contract: half a turn on and half a turn back is a level.
use mathlib.Core.Path.{◌≡◌, ◌∙◌, ap}
use Prim.Native.Nat.{◌+◌, ◌%◌}
use native.Mathlib.Omega.{arith}
use lib.IntN.{ℤ, pos, ◌-ℤ◌}
use mir.Syntax.{w16}
use mir.Val.{SFits, to_z}
use mir.Facts.{to_z-of_z, to_z_pos}
use borrow.Author.Rules.{rules}
use Rattle.laws.proofs.Integer.{low_fits}
use Rattle.quantiser.specs.Level.{level_of}
use Rattle.quantiser.proofs.Level.{level_turned, level_low}
use Rattle.quantiser.proofs.dequantise.level.Goals as goal
use Rattle.quantiser.proofs.dequantise.level.Goals.{Start}

turned_is : (s : Start) → to_z w16 ((s.args.byte + 128) % 256) ≡ pos ((s.args.byte + 128) % 256)
turned_is s = to_z_pos w16 (omega arith)

is : (s : Start) → to_z w16 ((s.args.byte + 128) % 256) -ℤ pos 128 ≡ level_of s.args.byte
is s = ap (λ (z : ℤ). z -ℤ pos 128) (turned_is s) ∙ level_turned s.args.byte (search rules)

fits : (s : Start) → SFits w16 (level_of s.args.byte)
fits s = low_fits tt (level_low s.args.byte (search rules))

pub overflow_sub-result : goal.overflow_sub-result
overflow_sub-result c = rw (is c) (fits c)

pub returns : goal.returns
returns c = rw (is c) (to_z-of_z (fits c))
