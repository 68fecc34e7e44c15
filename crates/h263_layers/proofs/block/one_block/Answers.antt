-- `h263_layers::block::one_block` meets its contract: an INTRA block, or another.
use Rattle.h263_layers.proofs.BlockSteps.{one_intra, one_inter}
use Rattle.h263_layers.proofs.block.one_block.Goals as goal

pub returns-then-intra : goal.returns-then-intra
returns-then-intra c = one_intra _ _ _ _ _ _ _ c.if-intra.true c.intra_block.ensures

pub returns : goal.returns
returns c = one_inter _ _ _ _ _ _ _ c.if-intra.false c.inter_block.ensures
