-- `salvaging::laid_refusal` meets its contract: its numbers one after another. Assumes nothing.
use mathlib.Core.List.{[], ◌∷◌}
use mathlib.Core.Path.{◌∙◌}
use Rattle.salvaging.proofs.laid_refusal.Goals as goal

pub returns : goal.returns
returns c = λ i. c.args.block ∷ 5 ∷ (c.from.ensures ∙ c.number_of-number.ensures) i ∷ c.args.why.place ∷ (c.from-2.ensures ∙ c.table_of-table.ensures) i ∷ []
