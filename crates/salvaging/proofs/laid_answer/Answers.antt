-- `salvaging::laid_answer` meets its contract: by the answer. Assumes nothing.
use Rattle.salvaging.specs.Log.{laid_answer}
use Rattle.standing.specs.Answered.{said}
use Rattle.standing.specs.declared.Answer.{Answer}
use mathlib.Core.List.{[], ◌∷◌}
use mathlib.Core.Path.{sym, ap, ◌∙◌}
use Rattle.salvaging.proofs.laid_answer.Goals as goal

pub returns-in-Taken : goal.returns-in-Taken
returns-in-Taken c = (λ i. c.args.block ∷ 2 ∷ c.from.ensures i ∷ c.from-in-Taken.ensures i ∷ 0 ∷ []) ∙ sym (ap (λ (a : Answer). laid_answer c.args.block (said a)) c.in-Taken.is)

pub returns-in-Old : goal.returns-in-Old
returns-in-Old c = (λ i. c.args.block ∷ 3 ∷ c.from-in-Old.ensures i ∷ c.from-in-Old-2.ensures i ∷ 0 ∷ []) ∙ sym (ap (λ (a : Answer). laid_answer c.args.block (said a)) c.in-Old.is)

pub returns-in-Lost : goal.returns-in-Lost
returns-in-Lost c = sym (ap (λ (a : Answer). laid_answer c.args.block (said a)) c.in-Lost.is)

pub returns-in-Refused : goal.returns-in-Refused
returns-in-Refused c = c.laid_refusal.ensures ∙ sym (ap (λ (a : Answer). laid_answer c.args.block (said a)) c.in-Refused.is)

pub returns-in-Picture : goal.returns-in-Picture
returns-in-Picture c = c.laid_tick.ensures ∙ sym (ap (λ (a : Answer). laid_answer c.args.block (said a)) c.in-Picture.is)
