-- `h263_description::levels_length` meets its contract: 384 levels a macroblock. Assumes nothing.
use mathlib.Core.Path.{sym, ap}
use Rattle.h263_description.specs.Value.{levels_length}
use Rattle.h263_description.proofs.levels_length.Goals as goal

pub returns-in-SubQcif : goal.returns-in-SubQcif
returns-in-SubQcif c = sym (ap levels_length c.in-SubQcif.is)

pub returns-in-Qcif : goal.returns-in-Qcif
returns-in-Qcif c = sym (ap levels_length c.in-Qcif.is)

pub returns-in-Cif : goal.returns-in-Cif
returns-in-Cif c = sym (ap levels_length c.in-Cif.is)
