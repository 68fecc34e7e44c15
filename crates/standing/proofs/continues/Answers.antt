-- `standing::continues` meets its contract: by its test. Assumes nothing.
use mathlib.Core.Path.{sym, ◌∙◌}
use Rattle.standing.proofs.continues.Goals as goal

pub returns-then-same : goal.returns-then-same
returns-then-same c = c.not_lost.ensures ∙ sym (rw (sym c.same.ensures ∙ c.if-same.true))

pub returns : goal.returns
returns c = sym (rw (sym c.same.ensures ∙ c.if-same.false))
