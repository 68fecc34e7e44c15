-- `h263_validity::macroblock::valid_dquant` meets its contract: a DQUANT where the type has one, else 0. Assumes nothing.
use mathlib.Core.Path.{sym, ap, ◌∙◌}
use mathlib.Core.Bool.{Bool}
use Rattle.laws.specs.Choice.{pick}
use Rattle.layout.specs.Numbers.{is_zero}
use Rattle.h263_words.specs.Words.{is_dquant}
use Rattle.h263_validity.proofs.macroblock.valid_dquant.Goals as goal

pub returns-then-has_dquant : goal.returns-then-has_dquant
returns-then-has_dquant c =
    let dquant = c.args.dquant in
    c.is_dquant.ensures ∙ ap (λ (b : Bool). pick b (is_dquant dquant) (is_zero dquant)) (sym c.if-has_dquant.true ∙ c.has_dquant.ensures)

pub returns : goal.returns
returns c =
    let dquant = c.args.dquant in
    ap (λ (b : Bool). pick b (is_dquant dquant) (is_zero dquant)) (sym c.if-has_dquant.false ∙ c.has_dquant.ensures)
