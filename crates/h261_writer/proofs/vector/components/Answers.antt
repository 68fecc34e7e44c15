-- `vector::components` meets its contract: the second component follows the first.
use Rattle.bits.proofs.Appended.{wrote_then}
use Rattle.h261_writer.proofs.MacroblockSteps.{across_asked, down_asked}
use Rattle.h261_writer.proofs.vector.components.Goals as goal

pub component-after-requires : goal.component-after-requires
component-after-requires c = across_asked c.requires

pub component-requires : goal.component-requires
component-requires c = down_asked c.requires c.component-after.ensures

pub returns : goal.returns
returns c = wrote_then c.component-after.ensures c.component.ensures
