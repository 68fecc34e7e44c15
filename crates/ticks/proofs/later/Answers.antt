-- `ticks::later` meets its contract: its two parts. Assumes nothing.
use mathlib.Core.Path.{◌∙◌}
use Rattle.ticks.specs.Tick.{later_tick}
use Rattle.ticks.proofs.later.Goals as goal

pub returns : goal.returns
unfolding later_tick
returns c =
    c.tick_as.ensures ∙ rw (c.above.ensures, c.number.ensures, c.stays_exact.ensures)
