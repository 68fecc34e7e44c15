-- `ticks::stays_exact` meets its contract: by whether the last one is exact. Assumes nothing.
use mathlib.Core.Path.{sym, ◌∙◌}
use Rattle.ticks.proofs.stays_exact.Goals as goal

pub returns-then-is_exact : goal.returns-then-is_exact
returns-then-is_exact c =
    sym (rw (sym c.is_exact.ensures ∙ c.if-is_exact.true))
