-- A moved macroblock lies in the picture, in every plane, where its luminance part does. Assumes nothing.
use Prim.Native.Nat.{ℕ, zero, suc, ◌+◌, ◌-◌, ◌*◌, ◌/◌, ◌%◌, ◌≤◌, ◌<◌}
use mathlib.Core.Path.{◌≡◌, refl, sym, ap, subst, ◌∙◌}
use native.Mathlib.Omega.{arith}
use borrow.Author.Tests.{ltb-false}
use lib.Dec.{T, ltb}
use lib.IntN.{ℤ, pos, negsuc, neg_ℤ, nat_abs, sub_ℕ, ◌+ℤ◌}
use Rattle.laws.specs.Choice.{opposite}
use Rattle.laws.proofs.Choice.{both_left, both_right, opposite_no}
use Rattle.laws.specs.Floor.{floor_divided}
use Rattle.laws.proofs.Integer.{sub_below, sub_above}
use Rattle.laws.proofs.Rows.{lt-or-ge}
use mathlib.Core.Logic.{◌⊎◌, inl, inr}
use Rattle.size.specs.Size.{width, height}
use Rattle.size.specs.declared.Size.{Size}
use Rattle.size.specs.Place.{macroblocks_across, macroblocks_down, side, blocks_across, blocks_down, own, On}
use Rattle.size.proofs.Grid.{width_is, height_is}
use Rattle.layout.specs.Value.{Vector, zero_vector}
use Rattle.h263_description.specs.Vector.{between, inside, row, column, in_picture}
use Rattle.h263_description.specs.Moved.{chroma, in_plane, half_place, Reaches, Aims, ChromaInside}
use Rattle.h263_description.proofs.Groups.{some_across, some_down}

-- ---- a component in plane p, by its sign: how far one of n half samples goes
abbrev pub halved_size : ℕ → ℕ → ℕ
halved_size zero n = n
halved_size (suc p) n = n / 4 + (n + 3) / 4

pub plane_ahead : (p n : ℕ) → in_plane p (pos n) ≡ pos (halved_size p n)
unfolding chroma floor_divided
plane_ahead zero n = refl
plane_ahead (suc p) n = refl

-- past three quarters
chroma_far : (n : ℕ) → 3 ≤ n → chroma (negsuc n) ≡ neg_ℤ (pos (halved_size 1 (suc n)))
unfolding chroma floor_divided
chroma_far n l =
    let less : suc n - 3 ≡ suc (n - 3) = omega arith in
    let sum : suc (suc (n / 4 + (n - 3) / 4)) ≡ suc n / 4 + (suc n + 3) / 4 = omega arith in
    ap (λ (z : ℤ). floor_divided (negsuc n) 4 +ℤ floor_divided z 4) (sub_above 3 (suc n) (omega arith) ∙ ap (λ (k : ℕ). neg_ℤ (pos k)) less)
    ∙ ap (λ (k : ℕ). neg_ℤ (pos k)) sum

pub plane_back : (p n : ℕ) → in_plane p (negsuc n) ≡ neg_ℤ (pos (halved_size p (suc n)))
unfolding chroma floor_divided
plane_back zero n = refl
plane_back (suc p) zero = refl
plane_back (suc p) (suc zero) = refl
plane_back (suc p) (suc (suc zero)) = refl
plane_back (suc p) (suc (suc (suc n))) = chroma_far (suc (suc (suc n))) (omega arith)

-- ---- a place, moved
pub half_ahead : (p k n : ℕ) → half_place p k (pos n) ≡ 2 * k + halved_size p n
unfolding half_place
half_ahead p k n = ap (λ (z : ℤ). nat_abs (pos (2 * k) +ℤ z)) (plane_ahead p n)

less : (a m : ℕ) → m ≤ a → nat_abs (pos a +ℤ neg_ℤ (pos m)) ≡ a - m
less a zero l = omega arith
less a (suc m) l = ap nat_abs (sub_below a (suc m) l)

pub half_back : (p k n : ℕ) → halved_size p (suc n) ≤ 2 * k → half_place p k (negsuc n) ≡ 2 * k - halved_size p (suc n)
unfolding half_place
half_back p k n l = ap (λ (z : ℤ). nat_abs (pos (2 * k) +ℤ z)) (plane_back p n) ∙ less (2 * k) (halved_size p (suc n)) l

-- ---- n rows or columns, moved
reach_ahead : (p k n end m : ℕ) → (2 * k + halved_size p m + 1) / 2 + n ≤ end → Reaches p k n end (pos m)
reach_ahead p k n end m l = record {
  forward = λ i h. half_ahead p (k + i) m ∙ on i ∙ ap (λ (h : ℕ). h + 2 * i) (sym (half_ahead p k m));
  within = subst (λ (h : ℕ). (h + 1) / 2 + n ≤ end) (sym (half_ahead p k m)) l;
}
  where
    on : (i : ℕ) → 2 * (k + i) + halved_size p m ≡ 2 * k + halved_size p m + 2 * i
    on i = omega arith

reach_back : (p k n end m : ℕ) → halved_size p (suc m) ≤ 2 * k → (2 * k - halved_size p (suc m) + 1) / 2 + n ≤ end → Reaches p k n end (negsuc m)
reach_back p k n end m l r = record {
  forward = λ i h. half_back p (k + i) m (more i) ∙ on i ∙ ap (λ (h : ℕ). h + 2 * i) (sym (half_back p k m l));
  within = subst (λ (h : ℕ). (h + 1) / 2 + n ≤ end) (sym (half_back p k m l)) r;
}
  where
    more : (i : ℕ) → halved_size p (suc m) ≤ 2 * (k + i)
    more i = omega arith

    on : (i : ℕ) → 2 * (k + i) - halved_size p (suc m) ≡ 2 * k - halved_size p (suc m) + 2 * i
    on i = omega arith

-- the samples that are used: of row or column i, h / 2 + i and (h + 1) / 2 + i, where h is the first's place
module _ {p k n end : ℕ} {z : ℤ} (r : Reaches p k n end z) (i : ℕ) (l : i < n) where
  pub reach_floor : half_place p (k + i) z / 2 ≡ half_place p k z / 2 + i
  reach_floor = ap (λ (h : ℕ). h / 2) (r.forward i l) ∙ on (half_place p k z)
    where
      on : (h : ℕ) → (h + 2 * i) / 2 ≡ h / 2 + i
      on h = omega arith

  pub reach_ceiling : (half_place p (k + i) z + 1) / 2 ≡ half_place p k z / 2 + half_place p k z % 2 + i
  reach_ceiling = ap (λ (h : ℕ). (h + 1) / 2) (r.forward i l) ∙ on (half_place p k z)
    where
      on : (h : ℕ) → (h + 2 * i + 1) / 2 ≡ h / 2 + h % 2 + i
      on h = omega arith

  pub reach_in : (half_place p (k + i) z + 1) / 2 < end
  reach_in = omega (arith, r.within, r.forward i l)

-- ---- the rule: "0 ≤ 2x + v and 2x + v + 30 ≤ 2(W - 1)", by the sign
between-pos : (high n : ℕ) → T (between (pos 0) (pos high) (pos n)) → n ≤ high
between-pos high n t = ltb-false high n (opposite_no (ltb high n) (both_right (opposite (ltb n 0)) (opposite (ltb high n)) t))

pub inside_ahead : (end from n : ℕ) → T (inside end from (pos n)) → 2 * from + n ≤ 2 * (end - 16)
inside_ahead end from n t = between-pos (2 * (end - 16)) (2 * from + n) t

pub inside_back : (end from n : ℕ) → T (inside end from (negsuc n)) → (suc n ≤ 2 * from) × (2 * from - suc n ≤ 2 * (end - 16))
inside_back end from n t = go (lt-or-ge (2 * from) (suc n))
  where
    over : (z : ℤ) → sub_ℕ (2 * from) (suc n) ≡ z → T (between (pos 0) (pos (2 * (end - 16))) z)
    over z e = subst (λ (z : ℤ). T (between (pos 0) (pos (2 * (end - 16))) z)) e t

    some : (a b : ℕ) → a < b → b - a ≡ suc (b - suc a)
    some a b l = omega arith

    go : (2 * from < suc n) ⊎ (suc n ≤ 2 * from) → (suc n ≤ 2 * from) × (2 * from - suc n ≤ 2 * (end - 16))
    go (inl l) = absurd (over (negsuc (suc n - suc (2 * from))) (sub_above (2 * from) (suc n) l ∙ ap (λ (k : ℕ). neg_ℤ (pos k)) (some (2 * from) (suc n) l)))
    go (inr l) = (l, between-pos (2 * (end - 16)) (2 * from - suc n) (over (pos (2 * from - suc n)) (sub_below (2 * from) (suc n) l)))

-- ---- a block of the macroblock in row or column c of n, moved
pub along : (n p x c : ℕ) (z : ℤ) → 1 ≤ n → own p x ≡ c → T (inside (n * 2 * 8) (c * 16) z) → Reaches p (x * 8) 8 (n * side p * 8) z
along n zero x c (pos m) l e t = let h = inside_ahead (n * 2 * 8) (c * 16) m t in reach_ahead 0 (x * 8) 8 (n * 2 * 8) m (omega arith)
along n (suc p) x c (pos m) l e t = let h = inside_ahead (n * 2 * 8) (c * 16) m t in reach_ahead (suc p) (x * 8) 8 (n * 1 * 8) m (omega arith)
along n zero x c (negsuc m) l e t = let h = inside_back (n * 2 * 8) (c * 16) m t in reach_back 0 (x * 8) 8 (n * 2 * 8) m (omega arith) (omega arith)
along n (suc p) x c (negsuc m) l e t =
    let h = inside_back (n * 2 * 8) (c * 16) m t in reach_back (suc p) (x * 8) 8 (n * 1 * 8) m (omega arith) (omega arith)

-- each of its blocks, then, with its own part of the vector
pub aims : (size : Size) (number address p y x : ℕ) (v : Vector) → own p y ≡ number → own p x ≡ address - 1 → T (in_picture size number address v) → Aims size p y x v
aims size number address p y x v r c t =
    let a = inside (width size) (column address) v.horizontal in
    let b = inside (height size) (row number) v.vertical in
    record {
      across =
          along (macroblocks_across size) p x (address - 1) v.horizontal (some_across size) c
          (subst (λ (end : ℕ). T (inside end (column address) v.horizontal)) (width_is size) (both_left a b t));
      down =
          along (macroblocks_down size) p y number v.vertical (some_down size) r
          (subst (λ (end : ℕ). T (inside end (row number) v.vertical)) (height_is size) (both_right a b t));
    }

-- a block that isn't moved
still : (p x n : ℕ) → x < n → Reaches p (x * 8) 8 (n * 8) (pos 0)
still zero x n l = reach_ahead 0 (x * 8) 8 (n * 8) 0 (omega arith)
still (suc p) x n l = reach_ahead (suc p) (x * 8) 8 (n * 8) 0 (omega arith)

pub zero-aims : (size : Size) (p y x : ℕ) → On size p y x → Aims size p y x zero_vector
zero-aims size p y x on = record { across = still p x (blocks_across size p) on.column; down = still p y (blocks_down size p) on.row }

-- ---- the theorem
pub chroma-inside : ChromaInside
chroma-inside size number address v t p = aims size number address (suc p) number (address - 1) v refl refl t
