-- `h261_groups::levels_length` meets its contract: six blocks of 64 levels a macroblock. Assumes nothing.
use mathlib.Core.Path.{sym, ap}
use Rattle.h261_groups.specs.Format.{levels_length}
use Rattle.h261_groups.proofs.levels_length.Goals as goal

pub returns-in-Qcif : goal.returns-in-Qcif
returns-in-Qcif c = sym (ap levels_length c.in-Qcif.is)

pub returns-in-Cif : goal.returns-in-Cif
returns-in-Cif c = sym (ap levels_length c.in-Cif.is)
