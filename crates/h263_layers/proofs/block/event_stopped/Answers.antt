-- `h263_layers::block::event_stopped` meets its contract: by the answer's case.
use mathlib.Core.Path.{sym, ap}
use Rattle.h263_layers.specs.Answer.{event_stopped}
use Rattle.h263_layers.proofs.block.event_stopped.Goals as goal

pub returns-in-Event : goal.returns-in-Event
returns-in-Event c = sym (ap (event_stopped _) c.in-Event.is)

pub returns-in-Refused : goal.returns-in-Refused
returns-in-Refused c = sym (ap (event_stopped _) c.in-Refused.is)
