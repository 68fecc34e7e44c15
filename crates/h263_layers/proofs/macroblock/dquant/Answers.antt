-- `h263_layers::macroblock::dquant` meets its contract: the difference, where the type has one.
use Rattle.h263_words.specs.Words.{has_dquant}
use Rattle.h263_layers.specs.Grammar.{dquant_read}
use Rattle.h263_layers.proofs.MacroblockSteps.{optional_there, optional-not}
use Rattle.h263_layers.proofs.macroblock.dquant.Goals as goal

pub returns-then-has_dquant : goal.returns-then-has_dquant
returns-then-has_dquant c =
    optional_there (has_dquant c.args.kind) c.has_dquant.result 0 dquant_read _ _ c.has_dquant.ensures _ c.if-has_dquant.true c.difference.ensures

pub returns : goal.returns
returns c =
    optional-not (has_dquant c.args.kind) c.has_dquant.result 0 dquant_read _ _ c.has_dquant.ensures c.if-has_dquant.false
