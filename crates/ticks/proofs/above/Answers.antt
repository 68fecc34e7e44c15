-- `ticks::above` meets its contract: the last tick and the difference, cut. Assumes nothing.
use mathlib.Core.Path.{◌∙◌}
use Rattle.ticks.specs.Tick.{tick_above}
use Rattle.ticks.proofs.above.Goals as goal

pub returns : goal.returns
unfolding tick_above
returns c =
    c.cut.ensures ∙ rw c.difference.ensures
