-- `h261_filter::across` meets its contract: each place of the row is what `along` or `along_edge` gives.
use mir.Syntax.{w32}
use Rattle.laws.proofs.Integer.{result_is}
use Rattle.quantiser.proofs.Lines.{line_of_lem}
use Rattle.h261_filter.proofs.across.Goals as goal

pub returns : goal.returns
returns c =
    line_of_lem
    (result_is w32 c.along_edge.type_inv c.along_edge.ensures)
    (result_is w32 c.along.type_inv c.along.ensures)
    (result_is w32 c.along-2.type_inv c.along-2.ensures)
    (result_is w32 c.along-3.type_inv c.along-3.ensures)
    (result_is w32 c.along-4.type_inv c.along-4.ensures)
    (result_is w32 c.along-5.type_inv c.along-5.ensures)
    (result_is w32 c.along-6.type_inv c.along-6.ensures)
    (result_is w32 c.along_edge-2.type_inv c.along_edge-2.ensures)
