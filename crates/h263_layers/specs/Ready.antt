-- What a layer asks of its caller. Assumes nothing.
use Rattle.std.specs.Prelude.{ℕ, ◌+◌, ◌≤◌, ◌<◌, ◌≡◌, List, length}
use Rattle.bits.specs.Answer.{Placed}
use Rattle.bits.specs.declared.Place.{Place}
use Rattle.size.specs.declared.Size.{Size}
use Rattle.size.specs.Place.{macroblocks_across, macroblocks_down}
use Rattle.h263_words.specs.Lookup.{Tables}
use Rattle.h263_description.specs.declared.predicted.Kept.{Kept}
use Rattle.h263_description.specs.Value.{macroblocks_length, levels_length}

-- the tables of codewords, and a place within the bits
pub record Reading (tables bytes : List ℕ) (count : ℕ) (at : Place) : Type 0 where
  pub tabled : Tables tables
  pub placed : Placed bytes count at

-- levels from a place to an end, which the slice has
pub record Span (from end : ℕ) (levels : List ℕ) : Type 0 where
  pub forward : from ≤ end
  pub room : end ≤ length levels

-- the vector of the macroblock at an address of a group, and what predicts it
pub record VectorReady (size : Size) (number address : ℕ) (predicted : Kept) : Type 0 where
  pub last_group : number < macroblocks_down size
  pub first_address : 1 ≤ address
  pub last_address : address ≤ macroblocks_across size
  pub horizontally : predicted.horizontal ≤ 63
  pub vertically : predicted.vertical ≤ 63

-- room for a macroblock's four bytes, and its vector, kept
pub record FieldsReady (macroblocks : List ℕ) (at horizontal vertical : ℕ) : Type 0 where
  pub room : at + 4 ≤ length macroblocks
  pub horizontally : horizontal ≤ 63
  pub vertically : vertical ≤ 63

-- its MCBPC, and buffers in the size's lengths
pub record MacroblockReady (size : Size) (number address : ℕ) (predicted : Kept) (mcbpc : ℕ) (macroblocks levels : List ℕ) : Type 0 where
  pub vectored : VectorReady size number address predicted
  pub typed : mcbpc ≤ 23
  pub macroblocks_long : length macroblocks ≡ macroblocks_length size
  pub levels_long : length levels ≡ levels_length size
