-- `salvaging::laid_tick` meets its contract: by whether it is exact. Assumes nothing.
use Rattle.salvaging.specs.Log.{laid_tick}
use mathlib.Core.List.{[], ◌∷◌}
use mathlib.Core.Path.{sym, ap, ◌∙◌}
use Rattle.salvaging.proofs.laid_tick.Goals as goal

pub returns-in-Exact : goal.returns-in-Exact
returns-in-Exact c = (λ i. c.args.block ∷ 6 ∷ c.from.ensures i ∷ c.from-in-Exact.ensures i ∷ 0 ∷ []) ∙ sym (ap (laid_tick c.args.block c.args.n) c.in-Exact.is)

pub returns-in-Estimated : goal.returns-in-Estimated
returns-in-Estimated c = (λ i. c.args.block ∷ 6 ∷ c.from-in-Estimated.ensures i ∷ c.from-in-Estimated-2.ensures i ∷ 1 ∷ []) ∙ sym (ap (laid_tick c.args.block c.args.n) c.in-Estimated.is)
