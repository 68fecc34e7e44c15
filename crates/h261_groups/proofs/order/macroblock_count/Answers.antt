-- `h261_groups::order::macroblock_count` meets its contract: 33 to a group. Assumes nothing.
use mathlib.Core.Path.{sym, ap}
use Rattle.h261_groups.specs.Order.{macroblock_count}
use Rattle.h261_groups.proofs.order.macroblock_count.Goals as goal

pub returns-in-Qcif : goal.returns-in-Qcif
returns-in-Qcif c = sym (ap macroblock_count c.in-Qcif.is)

pub returns-in-Cif : goal.returns-in-Cif
returns-in-Cif c = sym (ap macroblock_count c.in-Cif.is)
