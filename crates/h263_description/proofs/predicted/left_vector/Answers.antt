-- `predicted::left_vector` meets its contract: by whether the macroblock stands in the first column.
use mathlib.Core.Path.{ap, ◌∙◌}
use native.Mathlib.Omega.{arith}
use Rattle.h263_description.specs.Kept.{kept_vector}
use Rattle.h263_description.proofs.Kept.{kept_zero, left_asked, left_none, left_some}
use Rattle.h263_description.proofs.predicted.left_vector.Goals as goal

pub returns-then-column-eq0 : goal.returns-then-column-eq0
returns-then-column-eq0 c =
    kept_zero c.zero_vector.ensures.0 c.zero_vector.ensures.1 ∙ ap kept_vector (left_none c.requires c.if-column-eq0.true)

pub overflow_sub-n : goal.overflow_sub-n
overflow_sub-n c = omega (arith, (left_asked c.requires c.if-column-eq0.false).0)

pub vector_at-requires : goal.vector_at-requires
vector_at-requires c = (left_asked c.requires c.if-column-eq0.false).1

pub returns : goal.returns
returns c =
    c.vector_at.ensures ∙ ap kept_vector (left_some c.requires c.if-column-eq0.false)
