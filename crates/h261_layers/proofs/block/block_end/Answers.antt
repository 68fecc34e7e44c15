-- `h261_layers::block::block_end` meets its contract: by the answer's case.
use mathlib.Core.Path.{sym, ap}
use Rattle.h261_layers.specs.Answer.{block_end}
use Rattle.h261_layers.proofs.block.block_end.Goals as goal

pub returns-in-Coefficient : goal.returns-in-Coefficient
returns-in-Coefficient c = sym (ap (block_end _) c.in-Coefficient.is)

pub returns-in-EndOfBlock : goal.returns-in-EndOfBlock
returns-in-EndOfBlock c = sym (ap (block_end _) c.in-EndOfBlock.is)

pub returns-in-Refused : goal.returns-in-Refused
returns-in-Refused c = sym (ap (block_end _) c.in-Refused.is)
