-- `h263_description::kind::is_intra` meets its contract: the type is 1 or 2. Assumes nothing.
use mathlib.Core.List.{[], ◌∷◌}
use Rattle.h263_description.proofs.OneOf.{one_here, one_past, one_last}
use Rattle.h263_description.proofs.kind.is_intra.Goals as goal

pub returns-then-kind-eq1 : goal.returns-then-kind-eq1
returns-then-kind-eq1 c = one_here 1 (2 ∷ []) _ c.if-kind-eq1.true

pub returns : goal.returns
returns c = one_past 1 (2 ∷ []) _ c.if-kind-eq1.false (one_last 2 c.args.kind)
