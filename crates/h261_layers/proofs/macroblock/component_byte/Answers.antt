-- `h261_layers::macroblock::component_byte` meets its contract: by one test over all components.
use Rattle.h261_layers.proofs.MacroblockWhole.{byte_is}
use Rattle.h261_layers.proofs.macroblock.component_byte.Goals as goal

pub returns : goal.returns
returns c = byte_is _ c.requires
