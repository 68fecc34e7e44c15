-- `quantiser::dequantise::direct` meets its contract: by the definition's test, one arm each.
use mathlib.Core.Path.{◌≡◌}
use Prim.Native.Nat.{◌*◌}
use native.Mathlib.Omega.{arith}
use lib.IntN.{pos}
use mir.Syntax.{w32}
use mir.Val.{SFits, to_z}
use mir.Facts.{to_z-of_z, to_z_pos}
use borrow.Author.Tests.{eq-eqb, ne_eqb}
use Rattle.laws.proofs.Integer.{low_fits}
use Rattle.quantiser.specs.Level.{direct}
use Rattle.quantiser.proofs.dequantise.direct.Goals as goal
use Rattle.quantiser.proofs.dequantise.direct.Goals.{Else-code-eq255}

code_is : (s : Else-code-eq255) → to_z w32 s.args.code ≡ pos s.args.code
code_is s = to_z_pos w32 (omega arith)

fits_eight : (s : Else-code-eq255) → SFits w32 (pos (8 * s.args.code))
fits_eight s = low_fits {m = 2040} tt (record { low = omega arith })

pub overflow_mul-result : goal.overflow_mul-result
overflow_mul-result c = rw (code_is c) (fits_eight c)

pub returns-then-code-eq255 : goal.returns-then-code-eq255
unfolding direct
returns-then-code-eq255 c = simp (eq-eqb _ _ c.if-code-eq255.true)

pub returns-else-code-eq255 : goal.returns-else-code-eq255
unfolding direct
returns-else-code-eq255 c = rw (code_is c) (simp (ne_eqb _ _ c.if-code-eq255.false) (to_z-of_z (fits_eight c)))
