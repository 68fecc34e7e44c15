-- What each function of the writer asks of what it is lent: the tables, a sound part of a description, and a place whose bits can be counted.
-- Assumes nothing.
use Rattle.std.specs.Prelude.{ℕ, ◌+◌, ◌*◌, ◌≤◌, ◌<◌, ◌≡◌, Bool, List, T, length, get_or, drop}
use Rattle.laws.specs.Choice.{either, opposite}
use Rattle.bits.specs.Write.{bits_if}
use Rattle.bits.specs.Appended.{CountablePlace}
use Rattle.layout.specs.Flat.{number_of, byte_vector, gather, gathers}
use Rattle.layout.specs.Numbers.{all, is_zero, is_level, codes_first}
use Rattle.h263_words.specs.Words.{is_inter}
use Rattle.h263_words.specs.Lookup.{Tables}
use Rattle.h263_description.specs.Vector.{in_range, predictor}
use Rattle.h263_description.specs.Landing.{component_of}
use Rattle.h263_description.specs.Valid.{valid_type}
use Rattle.h263_description.specs.Kept.{vectors_in, BytesNear, PredictorAsked}
use Rattle.h263_writer.specs.Write.{events_of, block_of, blocks_of, component_bits, vector_bits, mcbpc_of, macroblock_of}
use Rattle.h263_writer.specs.Sound.{waited_bits, macroblock_at, SoundMacroblock, SoundPicture, row_bits, group_bits, groups_bits}

-- ---- blocks
-- a coefficient that waits, if it is none with 0
pub record WaitingAsked (t : List ℕ) (before waiting at : ℕ) : Type 0 where
  pub tables : Tables t
  pub near : before ≤ 63
  pub allowed : T (is_level waiting)
  pub counts : CountablePlace at (waited_bits before waiting)

pub record EventsAsked (t levels : List ℕ) (from at : ℕ) : Type 0 where
  pub tables : Tables t
  pub long : length levels ≡ 64
  pub allowed : T (all is_level levels)
  pub near : from ≤ 1
  pub counts : CountablePlace at (events_of (gather 0 (drop from levels)))

-- 64 levels, an INTRA block's with its code
pub record BlockAsked (t levels : List ℕ) (intra : Bool) (at : ℕ) : Type 0 where
  pub tables : Tables t
  pub long : length levels ≡ 64
  pub allowed : T (all is_level levels)
  pub coded : T (either (opposite intra) (opposite (is_zero (get_or levels 0 0))))
  pub counts : CountablePlace at (block_of intra (gather 0 levels))

pub record BlocksAsked (t levels : List ℕ) (intra : Bool) (at : ℕ) : Type 0 where
  pub tables : Tables t
  pub long : length levels ≡ 384
  pub allowed : T (all is_level levels)
  pub coded : T (either (opposite intra) (codes_first 6 levels))
  pub counts : CountablePlace at (blocks_of intra (gathers 6 levels))

-- the same of levels that are only looked at
pub record PresentAsked (levels : List ℕ) (intra : Bool) : Type 0 where
  pub long : length levels ≡ 64
  pub coded : T (either (opposite intra) (opposite (is_zero (get_or levels 0 0))))

pub record PatternAsked (levels : List ℕ) (intra : Bool) : Type 0 where
  pub long : length levels ≡ 384
  pub coded : T (either (opposite intra) (codes_first 6 levels))

-- ---- vectors
-- a component's byte, against a predicted one that is kept as 32 more
pub record ComponentAsked (t : List ℕ) (predicted byte at : ℕ) : Type 0 where
  pub tables : Tables t
  pub low : predicted < 64
  pub near : T (in_range (number_of byte))
  pub counts : CountablePlace at (component_bits (component_of predicted) (number_of byte))

pub record ComponentsAsked (t : List ℕ) (horizontal vertical across down at : ℕ) : Type 0 where
  pub tables : Tables t
  pub horizontal_low : horizontal < 64
  pub vertical_low : vertical < 64
  pub across_near : T (in_range (number_of across))
  pub down_near : T (in_range (number_of down))
  pub counts : CountablePlace at (vector_bits (record { horizontal = component_of horizontal; vertical = component_of vertical }) (byte_vector across down))

-- macroblock n, in a column of a picture so many macroblocks across
pub record VectorAsked (t macroblocks : List ℕ) (across n column : ℕ) (headed : Bool) (at : ℕ) : Type 0 where
  pub tables : Tables t
  pub before : PredictorAsked macroblocks across n column
  pub own : BytesNear macroblocks n
  pub counts : CountablePlace at (bits_if (is_inter (get_or macroblocks (n * 4) 0)) (vector_bits (predictor across headed (vectors_in macroblocks) n) (vectors_in macroblocks n)))

-- ---- macroblocks
pub record TypeAsked (t : List ℕ) (intra : Bool) (type pattern at : ℕ) : Type 0 where
  pub tables : Tables t
  pub some : 1 ≤ type
  pub typed : T (valid_type intra type)
  pub counts : CountablePlace at (mcbpc_of intra type pattern)

-- macroblock n, with its 384 levels
pub record MacroblockAsked (t macroblocks levels : List ℕ) (across n column : ℕ) (intra headed : Bool) (at : ℕ) : Type 0 where
  pub tables : Tables t
  pub before : PredictorAsked macroblocks across n column
  pub own : BytesNear macroblocks n
  pub levels_long : length levels ≡ 384
  pub sound : SoundMacroblock intra (get_or macroblocks (n * 4) 0) (get_or macroblocks (n * 4 + 1) 0) levels
  pub counts : CountablePlace at (macroblock_of intra (predictor across headed (vectors_in macroblocks) n) (macroblock_at (column + 1) macroblocks n levels))

-- ---- rows and groups of a sound picture of `count` macroblocks
pub record RowAsked (t macroblocks levels : List ℕ) (across number gquant : ℕ) (intra : Bool) (at : ℕ) : Type 0 where
  pub tables : Tables t
  pub wide : 1 ≤ across
  pub count : ℕ
  pub sound : SoundPicture count intra macroblocks levels
  pub inside : number * across + across ≤ count
  pub counts : CountablePlace at (row_bits across intra gquant number macroblocks levels)

pub record GroupAsked (t macroblocks levels : List ℕ) (across number gquant : ℕ) (intra : Bool) (at : ℕ) : Type 0 where
  pub tables : Tables t
  pub wide : 1 ≤ across
  pub count : ℕ
  pub sound : SoundPicture count intra macroblocks levels
  pub inside : number * across + across ≤ count
  pub numbered : number ≤ 31
  pub quantised : gquant ≤ 31
  pub counts : CountablePlace at (group_bits across intra gquant number macroblocks levels)

-- all groups of a picture, with a GQUANT for each
pub record GroupsAsked (t head macroblocks levels : List ℕ) (across down : ℕ) (intra : Bool) (at : ℕ) : Type 0 where
  pub tables : Tables t
  pub wide : 1 ≤ across
  pub few : down ≤ 31
  pub head_long : length head ≡ 5 + down
  pub quantised : (g : ℕ) → g < down → get_or head (g + 5) 0 ≤ 31
  pub sound : SoundPicture (down * across) intra macroblocks levels
  pub counts : CountablePlace at (groups_bits across down intra head macroblocks levels)
