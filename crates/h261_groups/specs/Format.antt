-- QCIF and CIF: what an H.261 format decides. Assumes nothing.
use Rattle.std.specs.Prelude.{ℕ, ◌+◌, ◌-◌, ◌*◌, ◌/◌, ◌%◌, ◌≤◌, List, [], ◌∷◌}
use Rattle.size.specs.declared.Size.{Size}
use Rattle.size.specs.declared.Size.TheVariants as S
use Rattle.h261_groups.specs.declared.Format.{Format}
use Rattle.h261_groups.specs.declared.Format.TheVariants.{Qcif, Cif}

-- "H.261 pictures in QCIF (176 by 144) and CIF (352 by 288)"
abbrev pub size_of : Format → Size
size_of Qcif = S.Qcif
size_of Cif = S.Cif

-- "PTYPE bit 4: 0 QCIF, 1 CIF"
abbrev pub format_bit : Format → ℕ
format_bit Qcif = 0
format_bit Cif = 1

-- "Groups follow, all of them, in order 1, 3, 5 (QCIF) or 1 to 12 (CIF)"
abbrev pub group_numbers : Format → List ℕ
group_numbers Qcif = 1 ∷ 3 ∷ 5 ∷ []
group_numbers Cif = 1 ∷ 2 ∷ 3 ∷ 4 ∷ 5 ∷ 6 ∷ 7 ∷ 8 ∷ 9 ∷ 10 ∷ 11 ∷ 12 ∷ []

-- how many
abbrev pub group_count : Format → ℕ
group_count Qcif = 3
group_count Cif = 12

-- a group's number, and an address in the group
pub record Addressed (number address : ℕ) : Type 0 where
  pub first_group : 1 ≤ number
  pub last_group : number ≤ 12
  pub first_address : 1 ≤ address
  pub last_address : address ≤ 33

-- "placed as Figure 6 has them": two groups of 176 by 48 to a row; QCIF has the left ones alone. A group is three rows of eleven macroblocks of 16 by 16.
-- The first column and row of the macroblock at an address, 1 to 33, of a group
abbrev pub column : ℕ → ℕ → ℕ
column group address = (group - 1) % 2 * 176 + (address - 1) % 11 * 16

abbrev pub row : ℕ → ℕ → ℕ
row group address = (group - 1) / 2 * 48 + (address - 1) / 11 * 16

-- a description: TR, PTYPE, the format and the GQUANTs; four bytes a macroblock; six blocks of 64 levels a macroblock
abbrev pub head_length : Format → ℕ
head_length f = 3 + group_count f

abbrev pub macroblocks_length : Format → ℕ
macroblocks_length f = group_count f * 132

abbrev pub levels_length : Format → ℕ
levels_length f = group_count f * 12672
