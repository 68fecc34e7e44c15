-- Where a vector points, in each plane; a vector that obeys the rule points into the picture, and its halves into CB and CR. Assumes nothing.
use Rattle.std.specs.Prelude.{ℕ, zero, suc, ◌+◌, ◌-◌, ◌*◌, ◌/◌, ◌≤◌, ℤ}
use Rattle.h261_groups.specs.declared.Format.{Format}
use Rattle.h261_groups.specs.Format.{size_of}
use Rattle.size.specs.Place.{wide, high}
use Rattle.layout.specs.Value.{Vector}
use Rattle.h261_description.specs.Vector.{ahead, back}

-- "Chroma vectors: each component halved, towards zero.": how far, in plane p
abbrev pub halved_place : ℕ → ℕ → ℕ
halved_place zero n = n
halved_place (suc p) n = n / 2

-- row or column k of plane p, moved by a component
unfoldable pub moved_place : ℕ → ℕ → ℤ → ℕ
moved_place p k z = k + halved_place p (ahead z) - halved_place p (back z)

-- the block at block row y, block column x of plane p, moved, lies in the plane
pub record Aims (f : Format) (p y x : ℕ) (v : Vector) : Type 0 where
  pub left : halved_place p (back v.horizontal) ≤ x * 8
  pub right : moved_place p (x * 8) v.horizontal + 8 ≤ wide (size_of f) p
  pub top : halved_place p (back v.vertical) ≤ y * 8
  pub bottom : moved_place p (y * 8) v.vertical + 8 ≤ high (size_of f) p

-- the macroblock in row r, column c, moved, lies in the luminance picture
pub record Points (f : Format) (r c : ℕ) (v : Vector) : Type 0 where
  pub left : back v.horizontal ≤ c * 16
  pub right : c * 16 + ahead v.horizontal + 16 ≤ wide (size_of f) 0 + back v.horizontal
  pub top : back v.vertical ≤ r * 16
  pub bottom : r * 16 + ahead v.vertical + 16 ≤ high (size_of f) 0 + back v.vertical
