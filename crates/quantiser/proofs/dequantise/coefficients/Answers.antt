-- `quantiser::dequantise::coefficients` meets its contract. The loop's invariant: the first k coefficients are the definition's.
use mathlib.Core.Path.{refl, ◌∙◌}
use borrow.Author.Rules.{rules}
use Rattle.laws.proofs.Rows.{begins_none, begins_more, begins_end}
use Rattle.quantiser.proofs.Lines.{back16}
use Rattle.quantiser.proofs.dequantise.coefficients.Goals as goal

pub loop-k-init : goal.loop-k-init
loop-k-init c = (search rules, begins_none refl)

pub loop-k-preserved : goal.loop-k-preserved
loop-k-preserved c = (
  search rules,
  begins_more c.loop-k.invariant.1 (search rules) (back16 c.coefficient.result c.coefficient.type_inv ∙ c.coefficient.ensures),
)

pub returns : goal.returns
returns c = begins_end c.loop-k.invariant.1 (search rules)
