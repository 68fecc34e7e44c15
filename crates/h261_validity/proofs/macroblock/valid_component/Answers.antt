-- `h261_validity::macroblock::valid_component` meets its contract: by the sign, the range and the picture's two edges. Assumes nothing.
use native.Mathlib.Omega.{arith}
use Rattle.h261_validity.proofs.Steps.{component_ahead, component_out, component_short, component_back}
use Rattle.h261_validity.proofs.macroblock.valid_component.Goals as goal

pub returns-then-number-le15 : goal.returns-then-number-le15
returns-then-number-le15 c = component_ahead _ _ _ c.if-number-le15.true

pub returns-then-number-le240 : goal.returns-then-number-le240
returns-then-number-le240 c = component_out _ _ _ (omega arith) c.if-number-le240.true

pub returns-then-from-back : goal.returns-then-from-back
returns-then-from-back c = component_short _ _ _ (omega arith) (omega arith) c.if-from-back.true

pub returns : goal.returns
returns c = component_back _ _ _ (omega arith) (omega arith) c.if-from-back.false
