-- How many groups there are, and their numbers. Assumes nothing.
use mathlib.Core.Path.{◌≡◌, refl}
use Prim.Native.Nat.{ℕ, ◌≤◌, ◌<◌}
use native.Mathlib.Omega.{arith}
use lib.ListN.{length, get_or}
use Rattle.laws.proofs.Table.{low_at}
use Rattle.h261_groups.specs.declared.Format.{Format}
use Rattle.h261_groups.specs.declared.Format.TheVariants.{Qcif, Cif}
use Rattle.h261_groups.specs.Format.{group_numbers, group_count}
use Rattle.h261_groups.proofs.Blocks.{group_at}

pub groups_most : (f : Format) → group_count f ≤ 12
groups_most Qcif = omega arith
groups_most Cif = omega arith

pub groups_listed : (f : Format) → length (group_numbers f) ≡ group_count f
groups_listed Qcif = refl
groups_listed Cif = refl

-- a group's number is 1 to 12
pub number_most : (f : Format) (g : ℕ) → get_or (group_numbers f) g 0 ≤ 12
number_most Qcif g = low_at 12 (group_numbers Qcif) tt g
number_most Cif g = low_at 12 (group_numbers Cif) tt g

pub number_within : (f : Format) (g : ℕ) → g < group_count f → (1 ≤ get_or (group_numbers f) g 0) × (get_or (group_numbers f) g 0 ≤ 12)
number_within f g l = (omega (arith, group_at f g l), number_most f g)
