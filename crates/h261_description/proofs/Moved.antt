-- A moved macroblock lies in the picture, in every plane, where its luminance part does. Assumes nothing.
use mathlib.Core.Path.{◌≡◌, subst}
use Prim.Native.Nat.{ℕ, zero, suc, ◌+◌, ◌-◌, ◌*◌, ◌≤◌, ◌<◌}
use native.Mathlib.Omega.{arith}
use lib.Dec.{T, leb, leb→le}
use lib.IntN.{ℤ}
use Rattle.laws.proofs.Choice.{both_left, both_right}
use Rattle.h261_groups.specs.declared.Format.{Format}
use Rattle.size.specs.Size.{width, height}
use Rattle.h261_groups.specs.Format.{row, column, size_of}
use Rattle.size.specs.Place.{macroblocks_across, macroblocks_down, side, own}
use Rattle.h261_groups.specs.Order.{macroblock_count, row_of, column_of}
use Rattle.size.proofs.Grid.{width_is, height_is}
use Rattle.h261_groups.proofs.Blocks.{group_of, address_of, row_at, column_at}
use Rattle.layout.specs.Value.{Vector}
use Rattle.h261_description.specs.Vector.{ahead, back, inside, in_picture}
use Rattle.h261_description.specs.Moved.{Aims, halved_place, Points, moved_place}

along : (n p x c a b : ℕ) → own p x ≡ c → b ≤ c * 16 → c * 16 + a + 16 ≤ n * 2 * 8 + b → halved_place p b ≤ x * 8
along n zero x c a b e l r = omega arith
along n (suc p) x c a b e l r = omega arith

within : (n p x c a b : ℕ) → own p x ≡ c → b ≤ c * 16 → c * 16 + a + 16 ≤ n * 2 * 8 + b → x * 8 + halved_place p a - halved_place p b + 8 ≤ n * side p * 8
within n zero x c a b e l r = omega arith
within n (suc p) x c a b e l r = omega arith

-- each of its blocks, then, with its own part of the vector
pub aims : {f : Format} {r c p y x : ℕ} {v : Vector} → own p y ≡ r → own p x ≡ c → Points f r c v → Aims f p y x v
unfolding moved_place
aims {f} {r} {c} {p} {y} {x} {v} er ec h = record {
  left = along (macroblocks_across (size_of f)) p x c (ahead v.horizontal) (back v.horizontal) ec h.left h.right;
  right = within (macroblocks_across (size_of f)) p x c (ahead v.horizontal) (back v.horizontal) ec h.left h.right;
  top = along (macroblocks_down (size_of f)) p y r (ahead v.vertical) (back v.vertical) er h.top h.bottom;
  bottom = within (macroblocks_down (size_of f)) p y r (ahead v.vertical) (back v.vertical) er h.top h.bottom;
}

-- "All samples used by the 16 by 16 luminance part must lie in the picture"
pub points_in : (f : Format) (n : ℕ) (v : Vector) → n < macroblock_count f → T (in_picture f (group_of f n) (address_of n) v) → Points f (row_of f n) (column_of f n) v
points_in f n v l t =
    let h = across (width (size_of f)) (column (group_of f n) (address_of n)) v.horizontal (both_left (inside (width (size_of f)) (column (group_of f n) (address_of n)) v.horizontal) (inside (height (size_of f)) (row (group_of f n) (address_of n)) v.vertical) t) in
    let k = across (height (size_of f)) (row (group_of f n) (address_of n)) v.vertical (both_right (inside (width (size_of f)) (column (group_of f n) (address_of n)) v.horizontal) (inside (height (size_of f)) (row (group_of f n) (address_of n)) v.vertical) t) in
    record {
      left = subst (λ (m : ℕ). back v.horizontal ≤ m) (column_at f n l) h.0;
      right = omega (arith, h.1, column_at f n l, width_is (size_of f));
      top = subst (λ (m : ℕ). back v.vertical ≤ m) (row_at f n l) k.0;
      bottom = omega (arith, k.1, row_at f n l, height_is (size_of f));
    }
  where
    across : (end from : ℕ) (z : ℤ) → T (inside end from z) → (back z ≤ from) × (from + ahead z + 16 ≤ end + back z)
    across end from z t =
        (leb→le (back z) from (both_left (leb (back z) from) (leb (from + ahead z + 16) (end + back z)) t), leb→le (from + ahead z + 16) (end + back z) (both_right (leb (back z) from) (leb (from + ahead z + 16) (end + back z)) t))
