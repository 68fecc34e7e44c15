-- `h261_layers::macroblock::last_mba` meets its contract: no bits left end the picture, else a codeword is read.
use Rattle.h261_layers.proofs.MacroblockSteps.{mba_end, mba_on}
use Rattle.h261_layers.proofs.macroblock.last_mba.Goals as goal

pub returns-then-count-at : goal.returns-then-count-at
returns-then-count-at c = mba_end _ _ _ _ c.if-count-at.true

pub returns : goal.returns
returns c = mba_on _ _ _ _ _ c.if-count-at.false c.mba_word.ensures
