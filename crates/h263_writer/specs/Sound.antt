-- What the writer takes of a valid description, by the macroblock's number in the picture. Assumes nothing.
use Rattle.std.specs.Prelude.{ℕ, zero, suc, ◌+◌, ◌*◌, ◌≤◌, ◌<◌, ◌≡◌, Bool, List, [], ◌∷◌, ◌++◌, T, length, get_or, take, drop}
use Rattle.laws.specs.Choice.{pick}
use Rattle.bits.specs.Bits.{Bit}
use Rattle.layout.specs.Value.{coefficient, Block, zero_vector, Macroblock}
use Rattle.layout.specs.Flat.{gathers, macroblocks_in, groups_in}
use Rattle.layout.specs.Numbers.{is_zero}
use Rattle.h263_words.specs.Words.{has_dquant, is_dquant, tcoef_of}
use Rattle.h263_description.specs.Value.{numbers_from}
use Rattle.h263_description.specs.Valid.{valid_type, valid_levels}
use Rattle.h263_description.specs.Kept.{vectors_in, first_vectors, BytesNear}
use Rattle.h263_writer.specs.Write.{row_of, head_of, groups_of}

-- a coefficient that waits for the next of its block, with its run: LAST is 0 on it. Level 0 is none
abbrev pub waiting_block : ℕ → ℕ → Block
waiting_block before zero = []
waiting_block before (suc code) = coefficient before (suc code) ∷ []

abbrev pub waited_bits : ℕ → ℕ → List Bit
waited_bits before zero = []
waited_bits before (suc code) = tcoef_of 0 (coefficient before (suc code))

-- macroblock n, by its bytes and its 384 levels, at an address of its group
abbrev pub macroblock_at : ℕ → List ℕ → ℕ → List ℕ → Macroblock
macroblock_at address macroblocks n levels = record {
  address = address;
  type = get_or macroblocks (n * 4) 0;
  quant = get_or macroblocks (n * 4 + 1) 0;
  vector = vectors_in macroblocks n;
  blocks = gathers 6 levels;
}

-- one that can be sent in a picture of this type: its type, DQUANT and levels
pub record SoundMacroblock (intra : Bool) (type quant : ℕ) (levels : List ℕ) : Type 0 where
  pub some : 1 ≤ type
  pub typed : T (valid_type intra type)
  pub quantised : T (pick (has_dquant type) (is_dquant quant) (is_zero quant))
  pub levelled : T (valid_levels type levels)

-- so many macroblocks, each of which says a vector in range, and is unsent, with no vector, or can be sent
pub record SoundPicture (count : ℕ) (intra : Bool) (macroblocks levels : List ℕ) : Type 0 where
  pub macroblocks_long : length macroblocks ≡ count * 4
  pub levels_long : length levels ≡ count * 384
  pub near : (n : ℕ) → n < count → BytesNear macroblocks n
  pub unsent : (n : ℕ) → n < count → get_or macroblocks (n * 4) 0 ≡ 0 → vectors_in macroblocks n ≡ zero_vector
  pub sent : (n : ℕ) → n < count → 1 ≤ get_or macroblocks (n * 4) 0
      → SoundMacroblock intra (get_or macroblocks (n * 4) 0) (get_or macroblocks (n * 4 + 1) 0) (take 384 (drop (n * 384) levels))

-- ---- the bits of a row, of a group with its header, and of all groups of a picture so many macroblocks across and down
abbrev pub row_bits : ℕ → Bool → ℕ → ℕ → List ℕ → List ℕ → List Bit
row_bits across intra gquant number macroblocks levels =
    row_of across across intra gquant 1 (first_vectors macroblocks (number * across))
    (macroblocks_in across 1 (drop (number * across * 4) macroblocks) (drop (number * across * 384) levels))

abbrev pub group_bits : ℕ → Bool → ℕ → ℕ → List ℕ → List ℕ → List Bit
group_bits across intra gquant number macroblocks levels = head_of number gquant ++ row_bits across intra gquant number macroblocks levels

abbrev pub groups_bits : ℕ → ℕ → Bool → List ℕ → List ℕ → List ℕ → List Bit
groups_bits across down intra head macroblocks levels = groups_of across intra (numbers_from 0 down) [] (groups_in across (drop 5 head) macroblocks levels)
