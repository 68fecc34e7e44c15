-- `h263_description::kind::is_inter` meets its contract: the type is 3 or 4. Assumes nothing.
use mathlib.Core.List.{[], ◌∷◌}
use Rattle.h263_description.proofs.OneOf.{one_here, one_past, one_last}
use Rattle.h263_description.proofs.kind.is_inter.Goals as goal

pub returns-then-kind-eq3 : goal.returns-then-kind-eq3
returns-then-kind-eq3 c = one_here 3 (4 ∷ []) _ c.if-kind-eq3.true

pub returns : goal.returns
returns c = one_past 3 (4 ∷ []) _ c.if-kind-eq3.false (one_last 4 c.args.kind)
