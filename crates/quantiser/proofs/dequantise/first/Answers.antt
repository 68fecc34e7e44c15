-- `quantiser::dequantise::first` meets its contract: by the definition's test, one arm each.
use mathlib.Core.Path.{◌∙◌, ap, sym}
use mathlib.Core.Bool.{Bool}
use Prim.Native.Nat.{ℕ}
use lib.IntN.{ℤ}
use mir.Syntax.{w16, w32}
use mir.Val.{to_z, of_z}
use Rattle.quantiser.proofs.Lines.{back32}
use Rattle.quantiser.specs.Level.{level_of, value_at}
use Rattle.quantiser.proofs.Level.{coefficient_low}
use Rattle.quantiser.proofs.Coefficients.{wide_fits, wide}
use Rattle.quantiser.proofs.dequantise.first.Goals as goal

pub returns-then-intra : goal.returns-then-intra
unfolding value_at
returns-then-intra c =
    back32 c.direct.result c.direct.type_inv ∙ c.direct.ensures
    ∙ ap (λ (intra : Bool). value_at (λ (k : ℕ). c.args.byte) intra c.args.quantiser 0) (sym c.if-intra.true)

pub overflow_cast-result : goal.overflow_cast-result
overflow_cast-result c =
    rw c.coefficient.ensures (wide_fits (coefficient_low c.args.quantiser (level_of c.args.byte)))

pub returns : goal.returns
unfolding value_at
returns c =
    ap (λ (z : ℤ). to_z w32 (of_z w32 (to_z w16 (of_z w16 z)))) c.coefficient.ensures ∙ wide (coefficient_low c.args.quantiser (level_of c.args.byte))
    ∙ ap (λ (intra : Bool). value_at (λ (k : ℕ). c.args.byte) intra c.args.quantiser 0) (sym c.if-intra.false)
