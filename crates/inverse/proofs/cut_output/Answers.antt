-- `inverse::cut_output` meets its contract: a number cut to 16 bits is cut to less as it was before.
use mathlib.Core.Path.{◌≡◌, sym, ap, subst, ◌∙◌}
use lib.Dec.{lit≤}
use lib.IntN.{ℤ, pos, negsuc}
use mir.Syntax.{w16, w32}
use mir.Val.{SFits, to_z, of_z}
use mir.Facts.{to_z-of_z}
use Rattle.laws.specs.Integer.{Low}
use Rattle.laws.proofs.Integer.{low_fits, back}
use Rattle.quantiser.specs.Cut.{cut, short}
use Rattle.quantiser.proofs.CutLaws.{short_cut, cut_low}
use Rattle.quantiser.proofs.Lines.{back16}
use Rattle.inverse.proofs.cut_output.Goals as goal
use Rattle.inverse.proofs.cut_output.Goals.{After-cut16}

abbrev output : ℤ → ℤ
output z = cut (negsuc 255) (pos 255) z

low : (z : ℤ) → Low 256 (output z)
low z = cut_low 255 255 (lit≤ tt) (lit≤ tt) z

result_is : (c : After-cut16) → to_z w16 (of_z w16 c.cut16.result) ≡ output c.args.z
result_is c =
    back16 c.cut16.result c.cut16.type_inv ∙ c.cut16.ensures
    ∙ ap output (back16 c.short.result c.short.type_inv ∙ c.short.ensures ∙ ap short (to_z-of_z c.ranges.z))
    ∙ short_cut 255 255 (lit≤ tt) (lit≤ tt) c.args.z

pub overflow_cast-result : goal.overflow_cast-result
overflow_cast-result c = subst (λ (z : ℤ). SFits w32 z) (sym (result_is c)) (low_fits tt (low c.args.z))

pub returns : goal.returns
returns c = ap (λ (z : ℤ). to_z w32 (of_z w32 z)) (result_is c) ∙ back w32 tt (low c.args.z)
