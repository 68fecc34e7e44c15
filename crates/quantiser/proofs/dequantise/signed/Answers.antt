-- `quantiser::dequantise::signed` meets its contract: the number is taken once, with one sign or the other, or not at all.
use mathlib.Core.Path.{◌≡◌, ◌∙◌, ap}
use lib.IntN.{ℤ, pos, negsuc, ◌*ℤ◌}
use mir.Syntax.{w16}
use mir.Val.{SFits, to_z, of_z}
use mir.Facts.{to_z-of_z}
use Rattle.laws.proofs.Integer.{low_fits}
use Rattle.quantiser.specs.Cut.{cut}
use Rattle.quantiser.specs.Level.{signed}
use Rattle.quantiser.proofs.Lines.{back16}
use Rattle.quantiser.proofs.Level.{signed_product, signed_low}
use Rattle.quantiser.proofs.dequantise.signed.Goals as goal
use Rattle.quantiser.proofs.dequantise.signed.Goals.{After-cut16}

sign_is : (c : After-cut16) → to_z w16 (of_z w16 c.cut16.result) ≡ cut (negsuc 0) (pos 1) c.args.level
sign_is c = back16 c.cut16.result c.cut16.type_inv ∙ c.cut16.ensures ∙ ap (λ (z : ℤ). cut (negsuc 0) (pos 1) z) (to_z-of_z c.ranges.level)

is : (c : After-cut16) → to_z w16 (of_z w16 c.args.number) *ℤ to_z w16 (of_z w16 c.cut16.result) ≡ signed c.args.number c.args.level
is c = (λ i. to_z-of_z c.ranges.number i *ℤ (sign_is c) i) ∙ signed_product c.args.number c.args.level

fits : (c : After-cut16) → SFits w16 (signed c.args.number c.args.level)
fits c = low_fits tt (signed_low c.args.level c.requires)

pub overflow_mul-result : goal.overflow_mul-result
overflow_mul-result c = rw (is c) (fits c)

pub returns : goal.returns
returns c = rw (is c) (to_z-of_z (fits c))
