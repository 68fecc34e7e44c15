-- What a layer asks of its caller. Assumes nothing.
use Rattle.std.specs.Prelude.{ℕ, ◌+◌, ◌*◌, ◌≤◌, List, length}
use Rattle.bits.specs.Answer.{Placed}
use Rattle.bits.specs.declared.Place.{Place}
use Rattle.h261_words.specs.Lookup.{Tables}
use Rattle.h261_groups.specs.Format.{Addressed}
use Rattle.h261_layers.specs.Answer.{Kept, KeptBehind}
use Rattle.h261_layers.specs.declared.Behind.{Behind}

-- the tables of codewords, and a place within the bits
pub record Reading (tables bytes : List ℕ) (count : ℕ) (at : Place) : Type 0 where
  pub tabled : Tables tables
  pub placed : Placed bytes count at

-- levels from a place to an end, which the slice has
pub record Span (from end : ℕ) (levels : List ℕ) : Type 0 where
  pub forward : from ≤ end
  pub room : end ≤ length levels

-- a vector after this preceding one
pub record VectorReady (number address horizontal vertical : ℕ) : Type 0 where
  pub addressed : Addressed number address
  pub horizontally : Kept horizontal
  pub vertically : Kept vertical

-- a macroblock a step after what is behind, in the group with a number
pub record Stepped (number : ℕ) (behind : Behind) (step : ℕ) : Type 0 where
  pub first_group : 1 ≤ number
  pub last_group : number ≤ 12
  pub ahead : 1 ≤ step
  pub last_address : behind.address + step ≤ 33
  pub kept : KeptBehind behind

-- and room for it in the two buffers, whose groups count from 0
pub record MacroblockReady (number group : ℕ) (behind : Behind) (step : ℕ) (macroblocks levels : List ℕ) : Type 0 where
  pub stepped : Stepped number behind step
  pub group_high : group ≤ 11
  pub macroblocks_room : group * 132 + 132 ≤ length macroblocks
  pub levels_room : group * 12672 + 12672 ≤ length levels
