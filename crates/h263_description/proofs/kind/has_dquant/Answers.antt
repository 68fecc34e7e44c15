-- `h263_description::kind::has_dquant` meets its contract: the type is 2 or 4. Assumes nothing.
use mathlib.Core.List.{[], ◌∷◌}
use Rattle.h263_description.proofs.OneOf.{one_here, one_past, one_last}
use Rattle.h263_description.proofs.kind.has_dquant.Goals as goal

pub returns-then-kind-eq2 : goal.returns-then-kind-eq2
returns-then-kind-eq2 c = one_here 2 (4 ∷ []) _ c.if-kind-eq2.true

pub returns : goal.returns
returns c = one_past 2 (4 ∷ []) _ c.if-kind-eq2.false (one_last 4 c.args.kind)
