-- `h261_layers::block::one_block` meets its contract: an INTRA block, or another's coefficients from the first.
use Rattle.h261_layers.proofs.IntraSteps.{one_intra, one_inter}
use borrow.Author.Rules.{rules}
use Rattle.h261_layers.proofs.block.one_block.Goals as goal

pub returns-then-intra : goal.returns-then-intra
returns-then-intra c = one_intra _ _ _ _ _ _ c.if-intra.true c.intra_block.ensures

pub coefficients-requires : goal.coefficients-requires
coefficients-requires c =
    (c.requires.0, record { forward = search rules; room = search rules })

pub returns : goal.returns
returns c = one_inter _ _ _ _ _ _ c.if-intra.false c.coefficients.ensures
