-- `h261_description::restarts` meets its contract: by its five tests in turn.
use Rattle.h261_description.proofs.Preceding.{restarts_first, restarts_second, restarts_third, restarts_far, restarts_else}
use Rattle.h261_description.proofs.restarts.Goals as goal

pub returns-then-to-eq1 : goal.returns-then-to-eq1
returns-then-to-eq1 c = restarts_first _ _ c.if-to-eq1.true

pub returns-then-to-eq12 : goal.returns-then-to-eq12
returns-then-to-eq12 c = restarts_second _ _ c.if-to-eq1.false c.if-to-eq12.true

pub returns-then-to-eq23 : goal.returns-then-to-eq23
returns-then-to-eq23 c = restarts_third _ _ c.if-to-eq1.false c.if-to-eq12.false c.if-to-eq23.true

pub returns-then-step-ne1 : goal.returns-then-step-ne1
returns-then-step-ne1 c = restarts_far _ _ c.if-to-eq1.false c.if-to-eq12.false c.if-to-eq23.false c.if-step-ne1.true

pub returns : goal.returns
returns c = restarts_else _ _ c.if-to-eq1.false c.if-to-eq12.false c.if-to-eq23.false c.if-step-ne1.false
