-- `h261_filter::border` meets its contract: each place of the row is what `down_edge` gives.
use mir.Syntax.{w32}
use Rattle.laws.proofs.Integer.{result_is}
use Rattle.quantiser.proofs.Lines.{line_of_lem}
use Rattle.h261_filter.proofs.border.Goals as goal

pub returns : goal.returns
returns c =
    line_of_lem
    (result_is w32 c.down_edge.type_inv c.down_edge.ensures)
    (result_is w32 c.down_edge-2.type_inv c.down_edge-2.ensures)
    (result_is w32 c.down_edge-3.type_inv c.down_edge-3.ensures)
    (result_is w32 c.down_edge-4.type_inv c.down_edge-4.ensures)
    (result_is w32 c.down_edge-5.type_inv c.down_edge-5.ensures)
    (result_is w32 c.down_edge-6.type_inv c.down_edge-6.ensures)
    (result_is w32 c.down_edge-7.type_inv c.down_edge-7.ensures)
    (result_is w32 c.down_edge-8.type_inv c.down_edge-8.ensures)
