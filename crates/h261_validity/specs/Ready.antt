-- What is asked of bytes before they are judged: that there are as many as a group or a macroblock has. Assumes nothing.
use Rattle.std.specs.Prelude.{◌≡◌, List, ℕ, ◌≤◌, length}
use Rattle.h261_groups.specs.Format.{Addressed}

-- a group's number, and the bytes of its 33 macroblocks, with others after them
pub record GroupReady (number : ℕ) (fields levels : List ℕ) : Type 0 where
  pub first_group : 1 ≤ number
  pub last_group : number ≤ 12
  pub fields_room : 132 ≤ length fields
  pub levels_room : 12672 ≤ length levels

-- a macroblock's place, its four fields and its 384 levels
pub record MacroblockReady (number address : ℕ) (fields levels : List ℕ) : Type 0 where
  pub addressed : Addressed number address
  pub fields_long : length fields ≡ 4
  pub levels_long : length levels ≡ 384
