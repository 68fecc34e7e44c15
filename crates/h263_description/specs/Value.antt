-- A picture as a value: what its bits say, however they say it; and its description. Assumes nothing.
-- head: TR, PTYPE bits 3 to 5, the format, the type, PQUANT, then a GQUANT for each group, 0 where no header stands
use Rattle.std.specs.Prelude.{ℕ, zero, suc, ◌+◌, ◌*◌, List, [], ◌∷◌, get_or, drop}
use Rattle.layout.specs.Value.{Group, Picture as Value}
use Rattle.layout.specs.Flat.{Flat, Shape, laid_out, groups_in}
use Rattle.size.specs.Place.{macroblocks_across, macroblocks_down}
use Rattle.size.specs.declared.Size.{Size}
use Rattle.size.specs.declared.Size.TheVariants.{SubQcif, Qcif, Cif}

-- "format (0 QCIF, 1 CIF, 2 sub-QCIF)"
abbrev pub format_number : Size → ℕ
format_number Qcif = 0
format_number Cif = 1
format_number SubQcif = 2

-- PTYPE bits 6 to 8: "001 sub-QCIF, 010 QCIF, 011 CIF"
abbrev pub format_code : Size → ℕ
format_code SubQcif = 1
format_code Qcif = 2
format_code Cif = 3

-- "type (0 INTRA, 1 INTER)"
abbrev pub intra_type : ℕ
intra_type = 0

abbrev pub inter_type : ℕ
inter_type = 1

-- TR, PTYPE bits 3 to 5 as a number, the type, PQUANT, and the groups in order; a macroblock's type is 1 to 4, its address counts from 1
pub record Picture : Type 0 where
  pub tr : ℕ
  pub ptype : ℕ
  pub type : ℕ
  pub pquant : ℕ
  pub groups : List Group

-- ---- "A group is a row of macroblocks: 6 of 8, 9 of 11, 18 of 22."
abbrev pub shape : Size → Shape
shape size = record { fixed = 5; groups = macroblocks_down size; each = macroblocks_across size }

-- a description: TR, PTYPE bits, the format, the type, PQUANT and the GQUANTs; four bytes a macroblock; six blocks of 64 levels a macroblock
abbrev pub head_length : Size → ℕ
head_length size = 5 + macroblocks_down size

abbrev pub macroblocks_length : Size → ℕ
macroblocks_length size = macroblocks_down size * (macroblocks_across size * 4)

abbrev pub levels_length : Size → ℕ
levels_length size = macroblocks_down size * (macroblocks_across size * 384)

-- the numbers of k groups, from one on
abbrev pub numbers_from : ℕ → ℕ → List ℕ
numbers_from number zero = []
numbers_from number (suc k) = number ∷ numbers_from (suc number) k

-- GN counts from 0: the first group's, which no header says
abbrev pub group_numbers : Size → List ℕ
group_numbers size = numbers_from 0 (macroblocks_down size)

abbrev pub value_of : Size → Picture → Value
value_of size p = record { fields = p.tr ∷ p.ptype ∷ format_number size ∷ p.type ∷ p.pquant ∷ []; groups = p.groups }

unfoldable pub laid_picture : Size → Picture → Flat
laid_picture size p = laid_out (shape size) (value_of size p)

unfoldable pub picture_in : Size → Flat → Picture
picture_in size d = record {
  tr = get_or d.head 0 0;
  ptype = get_or d.head 1 0;
  type = get_or d.head 3 0;
  pquant = get_or d.head 4 0;
  groups = groups_in (macroblocks_across size) (drop 5 d.head) d.macroblocks d.levels;
}
