-- `standing::refused_length` meets its contract: by the answer. Assumes nothing.
use mathlib.Core.Path.{sym, ap, ◌∙◌}
use Rattle.standing.specs.declared.Answer.{Answer}
use Rattle.standing.specs.Answered.{said}
use Rattle.standing.specs.Shown.{refused_length}
use Rattle.standing.proofs.refused_length.Goals as goal

pub returns-in-Refused : goal.returns-in-Refused
returns-in-Refused c = c.is_length.ensures ∙ sym (ap (λ (a : Answer). refused_length (said a)) c.in-Refused.is)
