-- `block::block` meets its contract: an INTRA block has a field before its coefficients, any other begins with one.
use lib.Dec.{lit≤}
use Rattle.h261_writer.proofs.BlockTurn.{code_counts, intra_asked, block_intra, inter_asked, block_inter}
use Rattle.h261_writer.proofs.block.block.Goals as goal

pub append-after-requires : goal.append-after-requires
append-after-requires c =
    (record { some = lit≤ tt; short = lit≤ tt; small = (c.shared_slice_known-1.given 0).fits }, code_counts c.requires c.if-intra.true)

pub coefficients-requires : goal.coefficients-requires
coefficients-requires c = intra_asked c.requires c.if-intra.true c.append-after.ensures

pub returns-then-intra : goal.returns-then-intra
returns-then-intra c =
    block_intra c.requires c.if-intra.true c.append-after.ensures c.coefficients.ensures

pub coefficients-requires-2 : goal.coefficients-requires-2
coefficients-requires-2 c = inter_asked c.requires c.if-intra.false

pub returns : goal.returns
returns c = block_inter c.requires c.if-intra.false c.coefficients-2.ensures
