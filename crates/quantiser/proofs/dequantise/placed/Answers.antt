-- `quantiser::dequantise::placed` meets its contract: each row has the numbers at the positions of Figure 12.
use lib.Dec.{lit≤}
use Rattle.quantiser.proofs.Lines.{block_of}
use Rattle.quantiser.proofs.Coefficients.{row_placed}
use Rattle.quantiser.proofs.dequantise.placed.Goals as goal

pub returns : goal.returns
returns c =
    let n = c.args.n.now in
    block_of
    (row_placed n 0 (lit≤ tt) c.row.ensures) (row_placed n 1 (lit≤ tt) c.row-2.ensures)
    (row_placed n 2 (lit≤ tt) c.row-3.ensures) (row_placed n 3 (lit≤ tt) c.row-4.ensures)
    (row_placed n 4 (lit≤ tt) c.row-5.ensures) (row_placed n 5 (lit≤ tt) c.row-6.ensures)
    (row_placed n 6 (lit≤ tt) c.row-7.ensures) (row_placed n 7 (lit≤ tt) c.row-8.ensures)
