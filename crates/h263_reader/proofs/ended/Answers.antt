-- `h263_reader::ended` meets its contract: by whether the groups were read, and whether the bits end there.
use Rattle.h263_reader.proofs.ParseSteps.{ended_past, ended_there}
use Rattle.h263_reader.proofs.ended.Goals as goal

pub returns-then-end-count : goal.returns-then-end-count
returns-then-end-count c = ended_past _ _ _ c.in-Got.is c.if-end-count.true

pub returns : goal.returns
returns c = ended_there _ _ _ c.in-Got.is c.if-end-count.false
