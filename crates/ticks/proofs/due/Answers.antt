-- `ticks::due` meets its contract: an arm for each tick. Assumes nothing.
use mathlib.Core.Path.{sym, ap, ◌∙◌}
use Rattle.ticks.specs.Due.{due_of}
use Rattle.ticks.specs.declared.DueTime.TheVariants as D
use Rattle.ticks.proofs.due.Goals as goal

pub returns-in-Exact : goal.returns-in-Exact
returns-in-Exact c =
    ap D.Exact c.seconds.ensures.value ∙ sym (ap due_of c.in-Exact.is)

pub returns-in-Estimated : goal.returns-in-Estimated
returns-in-Estimated c =
    ap D.Estimated c.seconds-in-Estimated.ensures.value ∙ sym (ap due_of c.in-Estimated.is)
