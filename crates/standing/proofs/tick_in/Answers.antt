-- `standing::tick_in` meets its contract: by whether a picture was finished. Assumes nothing.
use mathlib.Core.Path.{sym, ◌∙◌}
use Rattle.standing.specs.Receive.{tick_in}
use Rattle.standing.proofs.tick_in.Goals as goal

pub returns-then-any_finished : goal.returns-then-any_finished
unfolding tick_in
returns-then-any_finished c =
    c.later.ensures ∙ sym (rw (sym c.any_finished.ensures ∙ c.if-any_finished.true))

pub returns : goal.returns
unfolding tick_in
returns c =
    c.first.ensures ∙ sym (rw (sym c.any_finished.ensures ∙ c.if-any_finished.false))
