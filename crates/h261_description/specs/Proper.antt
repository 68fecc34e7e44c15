-- A proper picture: what document 01 asks of a description ("It is valid when .."), said of the picture as a value. What is read is proper, and what is proper lays out as a valid description (LaidOut.antt). Assumes nothing.
use Rattle.std.specs.Prelude.{ℕ, ◌≤◌, ◌≡◌, List, T, length}
use Rattle.laws.specs.Choice.{opposite}
use Rattle.h261_words.specs.Words.{is_intra, is_mc, has_mquant, has_cbp}
use Rattle.layout.specs.Numbers.{within, is_quantiser}
use Rattle.h261_groups.specs.Format.{group_numbers}
use Rattle.h261_groups.specs.declared.Format.{Format}
use Rattle.layout.specs.Value.{Vector, zero_vector, Block, Macroblock, Group}
use Rattle.layout.specs.Proper.{If, Each, Numbered, Fits, Begins, all_empty, GoodGroup}
use Rattle.h261_description.specs.Vector.{in_range, in_picture}
use Rattle.h261_description.specs.Value.{Picture}

-- ---- blocks
-- six blocks; "a type with CBP has a nonzero level", and a type without it, but INTRA, has none
pub record ProperBlocks (type : ℕ) (blocks : List Block) : Type 0 where
  pub six : length blocks ≡ 6
  pub fitting : Each (Fits 64) blocks
  pub coded : If (is_intra type) (Each Begins blocks) (If (has_cbp type) (T (opposite (all_empty blocks))) (T (all_empty blocks)))

-- ---- macroblocks
-- "vectors obey the rules"
pub record ProperVector (f : Format) (number address : ℕ) (v : Vector) : Type 0 where
  pub horizontally : T (in_range v.horizontal)
  pub vertically : T (in_range v.vertical)
  pub inside : T (in_picture f number address v)

-- one of the ten types; "every unused MQUANT, vector component and level is 0"
pub record ProperMacroblock (f : Format) (number : ℕ) (m : Macroblock) : Type 0 where
  pub typed : T (within 1 10 m.type)
  pub quantised : If (has_mquant m.type) (T (is_quantiser m.quant)) (m.quant ≡ 0)
  pub pointed : If (is_mc m.type) (ProperVector f number m.address m.vector) (m.vector ≡ zero_vector)
  pub blocked : ProperBlocks m.type m.blocks

-- ---- groups
-- a quantiser, whatever the group's number
abbrev pub ProperGquant : ℕ → ℕ → Type 0
ProperGquant number gquant = T (is_quantiser gquant)

abbrev pub ProperGroup : Format → ℕ → Group → Type 0
ProperGroup f = GoodGroup 33 ProperGquant (ProperMacroblock f)

-- a group for each number
abbrev pub ProperGroups : Format → List ℕ → List Group → Type 0
ProperGroups f = Numbered (ProperGroup f)

-- ---- the picture
pub record Proper (f : Format) (p : Picture) : Type 0 where
  pub reference : p.tr ≤ 31
  pub typed : p.ptype ≤ 7
  pub grouped : ProperGroups f (group_numbers f) p.groups
