-- `pace::ticks_between` meets its contract: by whether a picture was finished. Assumes nothing.
use mathlib.Core.Path.{sym, ◌∙◌}
use Rattle.pace.proofs.ticks_between.Goals as goal

pub returns-then-any_finished : goal.returns-then-any_finished
returns-then-any_finished c =
    c.less.ensures ∙ rw (c.number.ensures, c.number-then-any_finished.ensures, sym c.any_finished.ensures ∙ c.if-any_finished.true)

pub returns : goal.returns
returns c =
    sym (rw (sym c.any_finished.ensures ∙ c.if-any_finished.false))
