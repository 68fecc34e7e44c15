-- `h263_render::started` meets its contract: by whether the macroblock is the first of its row, and a header stands. Assumes nothing.
use borrow.Author.Tests.{eq-eqb, ne_eqb}
use Rattle.h263_render.proofs.started.Goals as goal

pub returns-then-column-ne0 : goal.returns-then-column-ne0
returns-then-column-ne0 c = simp (ne_eqb _ _ c.if-column-ne0.true)

pub returns-then-gquant-eq0 : goal.returns-then-gquant-eq0
returns-then-gquant-eq0 c = simp (eq-eqb _ _ c.if-column-ne0.false, eq-eqb _ _ c.if-gquant-eq0.true)

pub returns : goal.returns
returns c = simp (eq-eqb _ _ c.if-column-ne0.false, ne_eqb _ _ c.if-gquant-eq0.false)
