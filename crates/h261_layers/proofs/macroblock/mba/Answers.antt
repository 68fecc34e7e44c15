-- `h261_layers::macroblock::mba` meets its contract: by whether the group is the last.
use Rattle.h261_layers.proofs.MacroblockSteps.{mba_last, mba_other}
use Rattle.h261_layers.proofs.macroblock.mba.Goals as goal

pub returns-then-last : goal.returns-then-last
returns-then-last c = mba_last _ _ _ _ _ c.if-last.true c.last_mba.ensures

pub returns : goal.returns
returns c = mba_other _ _ _ _ _ c.if-last.false c.mba_word.ensures
