-- `salvaging::look_on` meets its contract: by whether the picture is still collected. Assumes nothing.
use mathlib.Core.Path.{sym, ◌∙◌}
use Rattle.salvaging.proofs.look_on.Goals as goal

pub returns-then-collects : goal.returns-then-collects
returns-then-collects c = sym (rw (sym c.collects.ensures ∙ c.if-collects.true))

pub returns : goal.returns
returns c = sym (rw (sym c.collects.ensures ∙ c.if-collects.false))
