-- `h263_description::macroblocks_length` meets its contract: four bytes a macroblock. Assumes nothing.
use mathlib.Core.Path.{sym, ap}
use Rattle.h263_description.specs.Value.{macroblocks_length}
use Rattle.h263_description.proofs.macroblocks_length.Goals as goal

pub returns-in-SubQcif : goal.returns-in-SubQcif
returns-in-SubQcif c = sym (ap macroblocks_length c.in-SubQcif.is)

pub returns-in-Qcif : goal.returns-in-Qcif
returns-in-Qcif c = sym (ap macroblocks_length c.in-Qcif.is)

pub returns-in-Cif : goal.returns-in-Cif
returns-in-Cif c = sym (ap macroblocks_length c.in-Cif.is)
