-- What is asked of bytes before they are judged: that there are as many as a group or a macroblock has. Assumes nothing.
use Rattle.std.specs.Prelude.{◌≡◌, List, ℕ, ◌*◌, ◌≤◌, ◌<◌, length}
use Rattle.size.specs.declared.Size.{Size}
use Rattle.size.specs.Place.{macroblocks_across}

-- a group's number, from 0, and an address in the group, from 1
pub record Addressed (number address : ℕ) : Type 0 where
  pub last_group : number < 18
  pub first_address : 1 ≤ address
  pub last_address : address ≤ 22

-- a group's number, and the bytes of its macroblocks, with others after them
pub record GroupReady (size : Size) (number : ℕ) (fields levels : List ℕ) : Type 0 where
  pub last_group : number < 18
  pub fields_room : macroblocks_across size * 4 ≤ length fields
  pub levels_room : macroblocks_across size * 384 ≤ length levels

-- a macroblock's place, its four fields and its 384 levels
pub record MacroblockReady (number address : ℕ) (fields levels : List ℕ) : Type 0 where
  pub addressed : Addressed number address
  pub fields_long : length fields ≡ 4
  pub levels_long : length levels ≡ 384
