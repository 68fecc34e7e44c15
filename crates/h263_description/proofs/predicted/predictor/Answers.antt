-- `predicted::predictor` meets its contract: at a border it is MV1, elsewhere the median of three candidates, the last of which is zero in the last column.
use mathlib.Core.Path.{ap, ◌∙◌}
use native.Mathlib.Omega.{arith}
use native.Mathlib.Nat.{mod-lt}
use Rattle.h263_description.specs.Kept.{kept_vector}
use Rattle.h263_description.proofs.Kept.{kept_zero, at_header, at_top, above_asked, right_asked, at_last, at_middle}
use Rattle.h263_description.proofs.predicted.predictor.Goals as goal

pub returns-then-headed : goal.returns-then-headed
returns-then-headed c =
    c.left_vector-left.ensures ∙ ap kept_vector (at_header c.requires _ c.if-headed.true)

pub returns-then-n-across : goal.returns-then-n-across
returns-then-n-across c =
    c.left_vector-left.ensures ∙ ap kept_vector (at_top c.requires _ c.if-n-across.true)

pub vector_at-above-requires : goal.vector_at-above-requires
vector_at-above-requires c =
    above_asked c.requires _ c.if-headed.false c.if-n-across.false

pub overflow_add-column : goal.overflow_add-column
overflow_add-column c = omega (arith, c.requires.columned, mod-lt c.args.n c.requires.wide, c.ranges.across.fits)

pub returns-then-column-across : goal.returns-then-column-across
returns-then-column-across c =
    c.median_vector.ensures
    ∙ at_last c.requires _ c.if-headed.false c.if-n-across.false c.left_vector-left.ensures c.vector_at-above.ensures c.if-column-across.true (kept_zero c.zero_vector.ensures.0 c.zero_vector.ensures.1)

pub vector_at-requires : goal.vector_at-requires
vector_at-requires c =
    right_asked c.requires _ c.if-headed.false c.if-n-across.false c.if-column-across.false

pub returns : goal.returns
returns c =
    c.median_vector-2.ensures
    ∙ at_middle c.requires _ c.if-headed.false c.if-n-across.false c.left_vector-left.ensures c.vector_at-above.ensures c.if-column-across.false (right_asked c.requires _ c.if-headed.false c.if-n-across.false c.if-column-across.false) c.vector_at.ensures
