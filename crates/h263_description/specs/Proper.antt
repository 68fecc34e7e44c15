-- A proper picture: what documents 01 and 02 ask of a description, said of the picture as a value. What is read is proper, and what is proper lays out as a valid description (LaidOut.antt). Assumes nothing.
use Rattle.std.specs.Prelude.{ℕ, zero, suc, ◌≤◌, ◌≡◌, Bool, List, T, length}
use Rattle.laws.specs.Choice.{pick}
use Rattle.size.specs.declared.Size.{Size}
use Rattle.size.specs.Place.{macroblocks_across}
use Rattle.h263_words.specs.Words.{is_intra, is_inter, has_dquant, is_dquant}
use Rattle.layout.specs.Numbers.{within, is_quantiser}
use Rattle.layout.specs.Value.{Vector, zero_vector, Block, Macroblock, Group}
use Rattle.layout.specs.Proper.{If, Each, Numbered, Fits, Begins, GoodGroup}
use Rattle.h263_description.specs.Vector.{in_range, in_picture}
use Rattle.h263_description.specs.Value.{Picture, group_numbers}
use Rattle.h263_description.specs.Fields.{is_intra_type}

-- ---- blocks
-- six blocks, those of INTRA with a DC code first; "an INTER macroblock may be without a nonzero level"
pub record ProperBlocks (type : ℕ) (blocks : List Block) : Type 0 where
  pub six : length blocks ≡ 6
  pub fitting : Each (Fits 64) blocks
  pub coded : If (is_intra type) (Each Begins blocks) (Unit {0})

-- ---- macroblocks
-- "vectors obey the rules"
pub record ProperVector (size : Size) (number address : ℕ) (v : Vector) : Type 0 where
  pub horizontally : T (in_range v.horizontal)
  pub vertically : T (in_range v.vertical)
  pub inside : T (in_picture size number address v)

-- one of the four types, in a picture of type INTRA one of the first two; "every unused MQUANT, vector component and level is 0"
pub record ProperMacroblock (size : Size) (intra : Bool) (number : ℕ) (m : Macroblock) : Type 0 where
  pub typed : T (pick intra (is_intra m.type) (within 1 4 m.type))
  pub quantised : If (has_dquant m.type) (T (is_dquant m.quant)) (m.quant ≡ 0)
  pub pointed : If (is_inter m.type) (ProperVector size number m.address m.vector) (m.vector ≡ zero_vector)
  pub blocked : ProperBlocks m.type m.blocks

-- ---- groups
-- "GQUANT, 1..31 where a header stands and 0 where none does. The first group's is always 0."
abbrev pub ProperGquant : ℕ → ℕ → Type 0
ProperGquant zero gquant = gquant ≡ 0
ProperGquant (suc number) gquant = gquant ≤ 31

-- "A valid description of type INTRA has every macroblock sent as INTRA": as many as the group has addresses
pub record ProperGroup (size : Size) (intra : Bool) (number : ℕ) (x : Group) : Type 0 where
  pub good : GoodGroup (macroblocks_across size) ProperGquant (ProperMacroblock size intra) number x
  pub complete : If intra (length x.macroblocks ≡ macroblocks_across size) (Unit {0})

-- a group for each number
abbrev pub ProperGroups : Size → Bool → List ℕ → List Group → Type 0
ProperGroups size intra = Numbered (ProperGroup size intra)

-- ---- the picture
pub record Proper (size : Size) (p : Picture) : Type 0 where
  pub reference : p.tr ≤ 255
  pub flagged : p.ptype ≤ 7
  pub typed : p.type ≤ 1
  pub quantised : T (is_quantiser p.pquant)
  pub grouped : ProperGroups size (is_intra_type p.type) (group_numbers size) p.groups
