-- `h263_description::head_length` meets its contract: five fields and a GQUANT a group. Assumes nothing.
use mathlib.Core.Path.{sym, ap}
use Rattle.h263_description.specs.Value.{head_length}
use Rattle.h263_description.proofs.head_length.Goals as goal

pub returns-in-SubQcif : goal.returns-in-SubQcif
returns-in-SubQcif c = sym (ap head_length c.in-SubQcif.is)

pub returns-in-Qcif : goal.returns-in-Qcif
returns-in-Qcif c = sym (ap head_length c.in-Qcif.is)

pub returns-in-Cif : goal.returns-in-Cif
returns-in-Cif c = sym (ap head_length c.in-Cif.is)
