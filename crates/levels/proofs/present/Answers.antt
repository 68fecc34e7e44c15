-- `levels::present` meets its contract: by whether all levels are zero.
use mathlib.Core.Path.{sym, ◌∙◌}
use Rattle.layout.proofs.Gathered.{present_none, present_some}
use Rattle.levels.proofs.present.Goals as goal

pub returns-then-all_zero : goal.returns-then-all_zero
returns-then-all_zero c = present_none 0 _ (sym c.all_zero.ensures ∙ c.if-all_zero.true)

pub returns : goal.returns
returns c = present_some 0 _ (sym c.all_zero.ensures ∙ c.if-all_zero.false)
