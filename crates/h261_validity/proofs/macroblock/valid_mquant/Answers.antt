-- `h261_validity::macroblock::valid_mquant` meets its contract: a quantiser where the type has one, else 0. Assumes nothing.
use mathlib.Core.Path.{sym, ap, ◌∙◌}
use mathlib.Core.Bool.{Bool}
use Rattle.laws.specs.Choice.{pick}
use Rattle.layout.specs.Numbers.{is_zero, is_quantiser}
use Rattle.h261_validity.proofs.macroblock.valid_mquant.Goals as goal

pub returns-then-has_mquant : goal.returns-then-has_mquant
returns-then-has_mquant c =
    let mquant = c.args.mquant in
    c.is_quantiser.ensures ∙ ap (λ (b : Bool). pick b (is_quantiser mquant) (is_zero mquant)) (sym c.if-has_mquant.true ∙ c.has_mquant.ensures)

pub returns : goal.returns
returns c =
    let mquant = c.args.mquant in
    ap (λ (b : Bool). pick b (is_quantiser mquant) (is_zero mquant)) (sym c.if-has_mquant.false ∙ c.has_mquant.ensures)
