-- `coding::kind_in` meets its contract: by the standard, then by the size. Assumes nothing.
use mathlib.Core.Path.{◌≡◌, refl, sym}
use Rattle.size.specs.declared.Size.{Size}
use Rattle.vault.specs.declared.Standard.{Standard}
use Rattle.coding.specs.Kind.{kind_in}
use Rattle.coding.proofs.kind_in.Goals as goal

found : {standard x : Standard} {size y : Size} → standard ≡ x → size ≡ y → kind_in x y ≡ kind_in standard size
found s z i = kind_in (sym s i) (sym z i)

pub returns-in-H263 : goal.returns-in-H263
returns-in-H263 c = found c.in-H263.is refl

pub returns-in-Qcif : goal.returns-in-Qcif
returns-in-Qcif c = found c.in-H261.is c.in-Qcif.is

pub returns-in-Cif : goal.returns-in-Cif
returns-in-Cif c = found c.in-H261.is c.in-Cif.is
