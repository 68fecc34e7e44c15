-- `h263_validity::macroblock::valid_component` meets its contract: by the sign, the range and the picture's two edges. Assumes nothing.
use native.Mathlib.Omega.{arith}
use Rattle.h263_validity.proofs.Steps.{component_ahead, component_out, component_short, component_back}
use Rattle.h263_validity.proofs.macroblock.valid_component.Goals as goal

pub returns-then-number-le31 : goal.returns-then-number-le31
returns-then-number-le31 c = component_ahead _ _ _ c.if-number-le31.true

pub returns-then-number-lt224 : goal.returns-then-number-lt224
returns-then-number-lt224 c = component_out _ _ _ (omega arith) c.if-number-lt224.true

pub returns-then-start-back : goal.returns-then-start-back
returns-then-start-back c = component_short _ _ _ (omega arith) (omega arith) c.if-start-back.true

pub returns : goal.returns
returns c = component_back _ _ _ (omega arith) (omega arith) c.if-start-back.false
