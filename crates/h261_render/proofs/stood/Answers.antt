-- `h261_render::stood` meets its contract: by whether the macroblock is the first of its group. Assumes nothing.
use borrow.Author.Tests.{eq-eqb, ne_eqb}
use Rattle.h261_render.proofs.stood.Goals as goal

pub returns-then-macroblock-eq0 : goal.returns-then-macroblock-eq0
returns-then-macroblock-eq0 c = simp (eq-eqb _ _ c.if-macroblock-eq0.true)

pub returns-else-macroblock-eq0 : goal.returns-else-macroblock-eq0
returns-else-macroblock-eq0 c = simp (ne_eqb _ _ c.if-macroblock-eq0.false)
