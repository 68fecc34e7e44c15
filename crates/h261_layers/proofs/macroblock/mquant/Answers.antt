-- `h261_layers::macroblock::mquant` meets its contract: the quantiser, where the type has it.
use Rattle.h261_layers.proofs.MacroblockSteps.{optional_there, optional-not}
use Rattle.h261_words.specs.Words.{has_mquant}
use Rattle.fields.specs.Rules.{quantiser}
use Rattle.h261_layers.proofs.macroblock.mquant.Goals as goal

pub returns-then-has_mquant : goal.returns-then-has_mquant
returns-then-has_mquant c = optional_there (has_mquant c.args.mtype) c.has_mquant.result 0 quantiser _ _ c.has_mquant.ensures _ c.if-has_mquant.true c.quantiser.ensures

pub returns : goal.returns
returns c = optional-not (has_mquant c.args.mtype) c.has_mquant.result 0 quantiser _ _ c.has_mquant.ensures c.if-has_mquant.false
