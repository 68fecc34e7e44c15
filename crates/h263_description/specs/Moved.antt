-- Where a vector points, in half samples, in each plane; where a macroblock's luminance part, moved, lies in the picture, its halves lie in CB and CR. Assumes nothing.
-- A place h in half samples is between the samples h / 2 and (h + 1) / 2, which are one where it is even. A block's rows and columns go on from its first by whole samples.
use Rattle.std.specs.Prelude.{ℕ, zero, suc, ◌+◌, ◌-◌, ◌*◌, ◌/◌, ◌≤◌, ◌<◌, ◌≡◌, T, ℤ, pos, nat_abs, ◌+ℤ◌}
use Rattle.laws.specs.Floor.{floor_divided}
use Rattle.size.specs.declared.Size.{Size}
use Rattle.size.specs.Place.{wide, high}
use Rattle.layout.specs.Value.{Vector}
use Rattle.h263_description.specs.Vector.{in_picture}

-- "half of each component, in half samples, quarters going to the half between (Table 15): 1, 2, 3 give 1, 4 gives 2, -1, -2, -3 give -1": the floor of a quarter, and its ceiling
unfoldable pub chroma : ℤ → ℤ
chroma z = floor_divided z 4 +ℤ floor_divided (z +ℤ pos 3) 4

-- a component in plane p
abbrev pub in_plane : ℕ → ℤ → ℤ
in_plane zero z = z
in_plane (suc p) z = chroma z

-- row or column k of plane p, moved by a component, in half samples: 2k + v. It is never negative where the vector obeys the rule
unfoldable pub half_place : ℕ → ℕ → ℤ → ℕ
half_place p k z = nat_abs (pos (2 * k) +ℤ in_plane p z)

-- n rows or columns of plane p from k on, moved, use samples among the first `end` alone: the last one's ceiling is among them
pub record Reaches (p k n end : ℕ) (z : ℤ) : Type 0 where
  pub forward : (i : ℕ) → i < n → half_place p (k + i) z ≡ half_place p k z + 2 * i
  pub within : (half_place p k z + 1) / 2 + n ≤ end

-- the block at block row y, block column x of plane p, moved, lies in the plane
pub record Aims (size : Size) (p y x : ℕ) (v : Vector) : Type 0 where
  pub across : Reaches p (x * 8) 8 (wide size p) v.horizontal
  pub down : Reaches p (y * 8) 8 (high size p) v.vertical

-- ---- "Chroma then lies inside by itself.": the blocks of CB and CR of a macroblock whose luminance part, moved, lies in the picture
abbrev pub ChromaInside : Type 0
ChromaInside = (size : Size) (number address : ℕ) (v : Vector) → T (in_picture size number address v) → (p : ℕ) → Aims size (suc p) number (address - 1) v
