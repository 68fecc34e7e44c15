-- `h261_groups::head_length` meets its contract: three bytes and a GQUANT for each group. Assumes nothing.
use mathlib.Core.Path.{sym, ap}
use Rattle.h261_groups.specs.Format.{head_length}
use Rattle.h261_groups.proofs.head_length.Goals as goal

pub returns-in-Qcif : goal.returns-in-Qcif
returns-in-Qcif c = sym (ap head_length c.in-Qcif.is)

pub returns-in-Cif : goal.returns-in-Cif
returns-in-Cif c = sym (ap head_length c.in-Cif.is)
