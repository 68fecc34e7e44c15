-- `h263_validity::is_refresh` meets its contract: the type is compared where it is there. Assumes nothing.
use Rattle.h263_validity.proofs.Steps.{type_there, type_missing}
use Rattle.h263_validity.proofs.is_refresh.Goals as goal

pub returns-then-head-lt4 : goal.returns-then-head-lt4
returns-then-head-lt4 c = type_missing _ c.if-head-lt4.true

pub returns : goal.returns
returns c = type_there _
