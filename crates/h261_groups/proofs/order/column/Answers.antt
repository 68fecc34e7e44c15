-- `h261_groups::order::column` meets its contract: by the format, the column in its group and the group's own. Assumes nothing.
use mathlib.Core.Path.{◌≡◌, sym, ap, ◌∙◌}
use Prim.Native.Nat.{ℕ, ◌+◌, ◌*◌, ◌/◌, ◌%◌}
use native.Mathlib.Omega.{arith}
use Rattle.h261_groups.specs.declared.Format.{Format}
use Rattle.h261_groups.specs.declared.Format.TheVariants.{Qcif, Cif}
use native.Mathlib.Nat.{mod-one}
use Rattle.h261_groups.specs.Order.{column_of}
use Rattle.h261_groups.proofs.order.column.Goals as goal

qcif : (n : ℕ) → n % 11 ≡ column_of Qcif n
qcif n = omega (arith, mod-one (n / 33))

cif : (n : ℕ) → n / 33 % 2 * 11 + n % 11 ≡ column_of Cif n
cif n = omega arith

pub returns-in-Qcif : goal.returns-in-Qcif
returns-in-Qcif c = qcif c.args.macroblock ∙ sym (ap (λ (f : Format). column_of f c.args.macroblock) c.in-Qcif.is)

pub returns-in-Cif : goal.returns-in-Cif
returns-in-Cif c = cif c.args.macroblock ∙ sym (ap (λ (f : Format). column_of f c.args.macroblock) c.in-Cif.is)
