-- `block::present` meets its contract: an INTRA block's code, its first level, is no event.
use Rattle.h263_writer.proofs.BlockTurn.{present_intra, present_inter}
use Rattle.h263_writer.proofs.block.present.Goals as goal

pub returns-then-intra : goal.returns-then-intra
returns-then-intra c =
    present_intra c.requires c.if-intra.true c.present.ensures

pub returns : goal.returns
returns c =
    present_inter c.requires c.if-intra.false c.present-2.ensures
