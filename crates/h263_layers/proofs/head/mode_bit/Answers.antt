-- `h263_layers::head::mode_bit` meets its contract: by the first bit that is set.
use Rattle.h263_layers.proofs.HeaderOf.{mode_first, mode_second, mode_third, mode_last}
use Rattle.h263_layers.proofs.head.mode_bit.Goals as goal

pub returns-then-information-eq1 : goal.returns-then-information-eq1
returns-then-information-eq1 c = mode_first _ c.if-information-eq1.true

pub returns-then-information-eq1-2 : goal.returns-then-information-eq1-2
returns-then-information-eq1-2 c = mode_second _ c.if-information-eq1.false c.if-information-eq1-2.true

pub returns-then-information-eq1-3 : goal.returns-then-information-eq1-3
returns-then-information-eq1-3 c = mode_third _ c.if-information-eq1.false c.if-information-eq1-2.false c.if-information-eq1-3.true

pub returns : goal.returns
returns c = mode_last _ c.if-information-eq1.false c.if-information-eq1-2.false c.if-information-eq1-3.false
