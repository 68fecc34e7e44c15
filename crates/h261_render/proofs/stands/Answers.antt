-- `h261_render::stands` meets its contract: by whether the type has MQUANT. Assumes nothing.
use mathlib.Core.Path.{sym, ◌∙◌}
use Rattle.h261_render.proofs.stands.Goals as goal

pub returns-then-has_mquant : goal.returns-then-has_mquant
returns-then-has_mquant c = rw (sym c.has_mquant.ensures ∙ c.if-has_mquant.true)

pub returns : goal.returns
returns c = rw (sym c.has_mquant.ensures ∙ c.if-has_mquant.false)
