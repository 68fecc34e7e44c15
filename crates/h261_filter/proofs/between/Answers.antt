-- `h261_filter::between` meets its contract: each place of the row is what `down` gives.
use mir.Syntax.{w32}
use Rattle.laws.proofs.Integer.{result_is}
use Rattle.quantiser.proofs.Lines.{line_of_lem}
use Rattle.h261_filter.proofs.between.Goals as goal

pub returns : goal.returns
returns c =
    line_of_lem
    (result_is w32 c.down.type_inv c.down.ensures)
    (result_is w32 c.down-2.type_inv c.down-2.ensures)
    (result_is w32 c.down-3.type_inv c.down-3.ensures)
    (result_is w32 c.down-4.type_inv c.down-4.ensures)
    (result_is w32 c.down-5.type_inv c.down-5.ensures)
    (result_is w32 c.down-6.type_inv c.down-6.ensures)
    (result_is w32 c.down-7.type_inv c.down-7.ensures)
    (result_is w32 c.down-8.type_inv c.down-8.ensures)
