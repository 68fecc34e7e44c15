-- `h263_layers::macroblock::component_byte` meets its contract: by the law of components and bytes.
use mathlib.Core.Path.{sym}
use native.Mathlib.Omega.{arith}
use Rattle.h263_description.proofs.Landing.{component_byte}
use Rattle.h263_layers.proofs.macroblock.component_byte.Goals as goal

pub returns : goal.returns
returns c = sym (component_byte c.args.kept (omega (arith, c.requires)))
