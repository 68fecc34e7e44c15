-- A picture as a value: what its bits say, however they say it; and its description. Assumes nothing.
use Rattle.std.specs.Prelude.{ℕ, List, [], ◌∷◌, get_or, drop}
use Rattle.layout.specs.Value.{Macroblock, Group, Picture as Value}
use Rattle.layout.specs.Flat.{Flat, Shape, laid_out, groups_in}
use Rattle.h261_groups.specs.declared.Format.{Format}
use Rattle.h261_groups.specs.Format.{format_bit, group_count}
use Rattle.h261_description.specs.Vector.{Before}

-- what a macroblock leaves behind for the next one's vector
abbrev pub before_next : Macroblock → Before
before_next m = record { address = m.address; vector = m.vector }

-- TR, PTYPE bits 1 to 3 as a number, and the groups of the format in order; a macroblock's type is 1 to 10, its address 1 to 33
pub record Picture : Type 0 where
  pub tr : ℕ
  pub ptype : ℕ
  pub groups : List Group

-- ---- "A description has TR, PTYPE bits 1 to 3, the format, GQUANTs"
-- three fixed fields, and groups of 33
abbrev pub shape : Format → Shape
shape f = record { fixed = 3; groups = group_count f; each = 33 }

abbrev pub value_of : Format → Picture → Value
value_of f p = record { fields = p.tr ∷ p.ptype ∷ format_bit f ∷ []; groups = p.groups }

unfoldable pub laid_picture : Format → Picture → Flat
laid_picture f p = laid_out (shape f) (value_of f p)

unfoldable pub picture_in : Flat → Picture
picture_in d = record {
  tr = get_or d.head 0 0;
  ptype = get_or d.head 1 0;
  groups = groups_in 33 (drop 3 d.head) d.macroblocks d.levels;
}
