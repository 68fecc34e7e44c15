-- `salvaging::look` meets its contract: by the answer. Assumes nothing.
use Rattle.salvaging.specs.Step.{looked_at}
use Rattle.standing.specs.Answered.{said}
use Rattle.standing.specs.declared.Answer.{Answer}
use borrow.Author.Tests.{eq-eqb, ne_eqb}
use mathlib.Core.Path.{sym, ap, ◌∙◌}
use Rattle.salvaging.proofs.look.Goals as goal

pub returns-then-finished-picture : goal.returns-then-finished-picture
returns-then-finished-picture c = sym (rw (c.in-Picture.is, eq-eqb _ _ c.if-finished-picture.true))

pub returns-else-finished-picture : goal.returns-else-finished-picture
returns-else-finished-picture c = sym (rw (c.in-Picture.is, ne_eqb _ _ c.if-finished-picture.false))

pub returns-in-Taken : goal.returns-in-Taken
returns-in-Taken c = c.look_on.ensures ∙ sym (ap (λ (a : Answer). looked_at c.args.picture (said a) c.args.received.next.progress) c.in-Taken.is)

pub returns-in-Old : goal.returns-in-Old
returns-in-Old c = c.look_on-in-Old.ensures ∙ sym (ap (λ (a : Answer). looked_at c.args.picture (said a) c.args.received.next.progress) c.in-Old.is)

pub returns-in-Lost : goal.returns-in-Lost
returns-in-Lost c = c.look_on-in-Lost.ensures ∙ sym (ap (λ (a : Answer). looked_at c.args.picture (said a) c.args.received.next.progress) c.in-Lost.is)

pub returns-in-Refused : goal.returns-in-Refused
returns-in-Refused c = c.look_on-in-Refused.ensures ∙ sym (ap (λ (a : Answer). looked_at c.args.picture (said a) c.args.received.next.progress) c.in-Refused.is)
