-- `h261_groups::order::row` meets its contract: by the format, the row in its group and the group's own. Assumes nothing.
use mathlib.Core.Path.{◌≡◌, sym, ap, ◌∙◌}
use Prim.Native.Nat.{ℕ, ◌+◌, ◌*◌, ◌/◌, ◌%◌}
use native.Mathlib.Omega.{arith}
use Rattle.h261_groups.specs.declared.Format.{Format}
use Rattle.h261_groups.specs.declared.Format.TheVariants.{Qcif, Cif}
use Rattle.h261_groups.specs.Order.{row_of}
use Rattle.h261_groups.proofs.order.row.Goals as goal

qcif : (n : ℕ) → n / 11 ≡ row_of Qcif n
qcif n = omega arith

cif : (n : ℕ) → n / 66 * 3 + n % 33 / 11 ≡ row_of Cif n
cif n = omega arith

pub returns-in-Qcif : goal.returns-in-Qcif
returns-in-Qcif c = qcif c.args.macroblock ∙ sym (ap (λ (f : Format). row_of f c.args.macroblock) c.in-Qcif.is)

pub returns-in-Cif : goal.returns-in-Cif
returns-in-Cif c = cif c.args.macroblock ∙ sym (ap (λ (f : Format). row_of f c.args.macroblock) c.in-Cif.is)
