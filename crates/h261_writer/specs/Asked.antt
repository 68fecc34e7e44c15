-- What each function of the writer asks of what it is lent: the tables, a sound part of a description, and a place whose bits can be counted.
-- Assumes nothing.
use Rattle.std.specs.Prelude.{ℕ, ◌+◌, ◌≤◌, ◌<◌, ◌≡◌, Bool, List, T, length, get_or, drop}
use Rattle.laws.specs.Choice.{either, opposite}
use Rattle.bits.specs.Code.{word_of}
use Rattle.bits.specs.Appended.{CountablePlace}
use Rattle.h261_groups.specs.Format.{group_numbers}
use Rattle.h261_groups.specs.declared.Format.{Format}
use Rattle.h261_words.specs.Tables.{table4}
use Rattle.h261_words.specs.Words.{is_mc, has_cbp}
use Rattle.h261_words.specs.Lookup.{Tables}
use Rattle.layout.specs.Flat.{flat, number_of, byte_vector, gather, gathers, macroblock_in, macroblocks_in, groups_in}
use Rattle.layout.specs.Numbers.{all, is_zero, is_level, codes_first}
use Rattle.h261_description.specs.Vector.{at_start, preceding}
use Rattle.h261_description.specs.Valid.{valid_levels, valid}
use Rattle.bits.specs.Write.{bits_if}
use Rattle.layout.specs.Pattern.{pattern_of}
use Rattle.h261_writer.specs.Write.{block_of, blocks_of, component_bits, vector_bits, macroblock_of, macroblocks_of, group_of, groups_of}
use Rattle.h261_writer.specs.Sound.{coded_bits, before_in, NearComponent, SoundMacroblock, SoundGroup, group_in}

-- ---- blocks
pub record CoefficientsAsked (t levels : List ℕ) (from : ℕ) (opening : Bool) (at : ℕ) : Type 0 where
  pub tables : Tables t
  pub long : length levels ≡ 64
  pub allowed : T (all is_level levels)
  pub near : from ≤ 1
  pub counts : CountablePlace at (coded_bits opening (gather 0 (drop from levels)))

pub record BlockAsked (t levels : List ℕ) (intra : Bool) (at : ℕ) : Type 0 where
  pub tables : Tables t
  pub long : length levels ≡ 64
  pub allowed : T (all is_level levels)
  pub coded : T (either (opposite intra) (opposite (is_zero (get_or levels 0 0))))
  pub counts : CountablePlace at (block_of intra (gather 0 levels))

pub record BlocksAsked (t levels : List ℕ) (intra : Bool) (at : ℕ) : Type 0 where
  pub tables : Tables t
  pub long : length levels ≡ 384
  pub allowed : T (all is_level levels)
  pub coded : T (either (opposite intra) (codes_first 6 levels))
  pub counts : CountablePlace at (blocks_of intra (gathers 6 levels))

-- ---- vectors, by their components' bytes
pub record ComponentAsked (t : List ℕ) (preceding byte at : ℕ) : Type 0 where
  pub tables : Tables t
  pub preceding_near : NearComponent preceding
  pub near : NearComponent byte
  pub counts : CountablePlace at (component_bits (number_of preceding) (number_of byte))

pub record ComponentsAsked (t : List ℕ) (horizontal vertical across down at : ℕ) : Type 0 where
  pub tables : Tables t
  pub horizontal_near : NearComponent horizontal
  pub vertical_near : NearComponent vertical
  pub across_near : NearComponent across
  pub down_near : NearComponent down
  pub counts : CountablePlace at (vector_bits (byte_vector horizontal vertical) (byte_vector across down))

pub record VectorAsked (t : List ℕ) (kind last step horizontal vertical across down at : ℕ) : Type 0 where
  pub tables : Tables t
  pub inside : last + step ≤ 33
  pub horizontal_near : NearComponent horizontal
  pub vertical_near : NearComponent vertical
  pub across_near : NearComponent across
  pub down_near : NearComponent down
  pub counts : CountablePlace at (bits_if (is_mc kind) (vector_bits (preceding (before_in last horizontal vertical) step) (byte_vector across down)))

-- ---- macroblocks
pub record PatternAsked (t : List ℕ) (kind : ℕ) (levels : List ℕ) (at : ℕ) : Type 0 where
  pub tables : Tables t
  pub long : length levels ≡ 384
  pub levelled : T (valid_levels kind levels)
  pub counts : CountablePlace at (bits_if (has_cbp kind) (word_of table4 (pattern_of (gathers 6 levels))))

pub record MacroblockAsked (t fields levels : List ℕ) (last address horizontal vertical at : ℕ) : Type 0 where
  pub tables : Tables t
  pub fields_long : length fields ≡ 4
  pub levels_long : length levels ≡ 384
  pub sound : SoundMacroblock fields levels
  pub after : last < address
  pub inside : address ≤ 33
  pub across_near : NearComponent horizontal
  pub down_near : NearComponent vertical
  pub counts : CountablePlace at (macroblock_of (before_in last horizontal vertical) (macroblock_in address fields levels))

-- ---- groups, with what the slices begin with
pub record MacroblocksAsked (t fields levels : List ℕ) (at : ℕ) : Type 0 where
  pub tables : Tables t
  pub fields_long : 132 ≤ length fields
  pub levels_long : 12672 ≤ length levels
  pub sound : SoundGroup fields levels
  pub counts : CountablePlace at (macroblocks_of at_start (macroblocks_in 33 1 fields levels))

pub record GroupAsked (t : List ℕ) (number gquant : ℕ) (fields levels : List ℕ) (at : ℕ) : Type 0 where
  pub tables : Tables t
  pub numbered : number ≤ 12
  pub quantised : gquant ≤ 31
  pub fields_long : 132 ≤ length fields
  pub levels_long : 12672 ≤ length levels
  pub sound : SoundGroup fields levels
  pub counts : CountablePlace at (group_of number (group_in gquant fields levels))

-- ---- all groups of a picture
pub record GroupsAsked (t : List ℕ) (format : Format) (head macroblocks levels : List ℕ) (at : ℕ) : Type 0 where
  pub tables : Tables t
  pub valid : T (valid format (flat head macroblocks levels))
  pub counts : CountablePlace at (groups_of (group_numbers format) (groups_in 33 (drop 3 head) macroblocks levels))
