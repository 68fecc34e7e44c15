-- `h261_groups::order::group_number` meets its contract: 1, 3, 5 in QCIF, 1 to 12 in CIF. Assumes nothing.
use mathlib.Core.Path.{◌≡◌, sym, ap, subst, ◌∙◌}
use Prim.Native.Nat.{ℕ, ◌+◌, ◌*◌, ◌<◌}
use native.Mathlib.Omega.{arith}
use lib.ListN.{get_or}
use Rattle.h261_groups.specs.declared.Format.{Format}
use Rattle.h261_groups.specs.declared.Format.TheVariants.{Qcif, Cif}
use Rattle.h261_groups.specs.Format.{group_numbers, group_count}
use Rattle.h261_groups.proofs.Blocks.{group_at}
use Rattle.h261_groups.proofs.order.group_number.Goals as goal

less : (f : Format) {g : ℕ} (h : Format) → h ≡ f → g < group_count h → g < group_count f
less f {g} h e l = subst (λ (k : Format). g < group_count k) e l

qcif : (g : ℕ) → g < 3 → g * 2 + 1 ≡ get_or (group_numbers Qcif) g 0
qcif g l = omega (arith, group_at Qcif g l)

cif : (g : ℕ) → g < 12 → g + 1 ≡ get_or (group_numbers Cif) g 0
cif g l = omega (arith, group_at Cif g l)

pub overflow_mul-result : goal.overflow_mul-result
overflow_mul-result c = omega (arith, less Qcif _ c.in-Qcif.is c.requires)

pub overflow_add-result : goal.overflow_add-result
overflow_add-result c = omega (arith, less Qcif _ c.in-Qcif.is c.requires)

pub overflow_add-result-in-Cif : goal.overflow_add-result-in-Cif
overflow_add-result-in-Cif c = omega (arith, less Cif _ c.in-Cif.is c.requires)

pub returns-in-Qcif : goal.returns-in-Qcif
returns-in-Qcif c = qcif c.args.group (less Qcif _ c.in-Qcif.is c.requires) ∙ sym (ap (λ (f : Format). get_or (group_numbers f) c.args.group 0) c.in-Qcif.is)

pub returns-in-Cif : goal.returns-in-Cif
returns-in-Cif c = cif c.args.group (less Cif _ c.in-Cif.is c.requires) ∙ sym (ap (λ (f : Format). get_or (group_numbers f) c.args.group 0) c.in-Cif.is)
