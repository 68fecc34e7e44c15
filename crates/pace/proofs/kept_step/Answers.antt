-- `pace::kept_step` meets its contract: by how the receiver stood. Assumes nothing.
use mathlib.Core.Path.{sym, ◌∙◌}
use Rattle.pace.proofs.kept_step.Goals as goal

pub returns-in-InStep : goal.returns-in-InStep
returns-in-InStep c = c.follows.ensures ∙ sym (rw c.in-InStep.is)
