-- A place moved by a component in a byte, in half samples: as the code counts it, by the component's sign. Assumes nothing.
use mathlib.Core.Path.{◌≡◌, refl, sym, ap, subst, ◌∙◌}
use mathlib.Core.Logic.{⊎_elim}
use Prim.Native.Nat.{ℕ, zero, suc, ◌+◌, ◌-◌, ◌*◌, ◌/◌, ◌≤◌, ◌<◌, zero-le}
use native.Mathlib.Omega.{arith}
use borrow.Author.Tests.{lt-ltb, le-ltb}
use lib.Dec.{T}
use lib.IntN.{ℤ, pos, negsuc, neg_ℤ, nat_abs, ◌+ℤ◌, +ℤ_assoc, +ℤ_comm}
use lib.Signed.{non_neg}
use Rattle.laws.proofs.Integer.{abs_neg, sub_below, sub_above}
use Rattle.laws.proofs.Rows.{lt-or-ge}
use Rattle.size.proofs.Grid.{other_plane}
use Rattle.layout.specs.Flat.{number_of}
use Rattle.h263_description.specs.Moved.{in_plane, half_place, Reaches}
use Rattle.h263_description.proofs.Moved.{halved_size, plane_ahead, plane_back, half_back}
use Rattle.h263_render.specs.Turn.{Moves}

-- ---- a place from which the next goes on isn't negative
not_negative : (w : ℤ) → nat_abs (w +ℤ pos 2) ≡ nat_abs w + 2 → pos (nat_abs w) ≡ w
not_negative (pos n) e = refl
not_negative (negsuc n) e = absurd (⊎_elim below above (lt-or-ge 2 (suc n)))
  where
    below : 2 < suc n → ⊥
    below l = omega (arith, ap nat_abs (sub_above 2 (suc n) l) ∙ abs_neg (pos (suc n - 2)))

    above : suc n ≤ 2 → ⊥
    above l = omega (arith, ap nat_abs (sub_below 2 (suc n) l))

pub reach_moves : {p k n end : ℕ} {z : ℤ} → Reaches p k n end z → 1 < n → k ≤ 65535 → Moves p k z
unfolding half_place
reach_moves {p} {k} {z = z} r l m = record {
  small = m;
  place = not_negative (pos (2 * k) +ℤ in_plane p z) (sym (ap nat_abs next) ∙ r.forward 1 l);
}
  where
    two : 2 * (k + 1) ≡ 2 + 2 * k
    two = omega arith

    next : pos (2 * (k + 1)) +ℤ in_plane p z ≡ pos (2 * k) +ℤ in_plane p z +ℤ pos 2
    next = ap (λ (n : ℕ). pos n +ℤ in_plane p z) two ∙ +ℤ_assoc (pos 2) (pos (2 * k)) (in_plane p z) ∙ +ℤ_comm (pos 2) (pos (2 * k) +ℤ in_plane p z)

-- ---- how far a component goes in a plane
pub plane_whole : (p n : ℕ) → p ≡ 0 → in_plane p (pos n) ≡ pos n
plane_whole p n e = ap (λ (q : ℕ). in_plane q (pos n)) e

pub plane_halved : (p n : ℕ) → (p ≡ 0 → ⊥) → in_plane p (pos n) ≡ pos (n / 4 + (n + 3) / 4)
plane_halved p n e = ap (λ (q : ℕ). in_plane q (pos n)) (sym (other_plane p e)) ∙ plane_ahead (suc (p - 1)) n

-- a byte's component goes no further than the byte
pub halved_most : (p n : ℕ) {h : ℕ} → n ≤ 255 → in_plane p (pos n) ≡ pos h → h ≤ 255
halved_most p n l e = go p (ap nat_abs (sym e ∙ plane_ahead p n))
  where
    go : (p : ℕ) {h : ℕ} → h ≡ halved_size p n → h ≤ 255
    go zero e = omega arith
    go (suc p) e = omega arith

-- ---- on, where the byte is below 128
pub half_forth : (p k c : ℕ) {h : ℕ} → c < 128 → in_plane p (pos c) ≡ pos h → k * 2 + h ≡ half_place p k (number_of c)
unfolding half_place
half_forth p k c {h} l e =
    let same : number_of c ≡ pos c = rw (lt-ltb c 128 l) in
    let twice : k * 2 + h ≡ 2 * k + h = omega arith in
    twice ∙ sym (ap (λ (z : ℤ). nat_abs (pos (2 * k) +ℤ z)) (ap (in_plane p) same ∙ e))

-- ---- back, where it isn't
not_below : (a h m : ℕ) → pos m ≡ pos a +ℤ neg_ℤ (pos h) → h ≤ a
not_below a zero m e = zero-le
not_below a (suc h) m e = ⊎_elim (λ l. absurd (below l)) (λ l. l) (lt-or-ge a (suc h))
  where
    some : a < suc h → suc h - a ≡ suc (h - a)
    some l = omega arith

    below : a < suc h → ⊥
    below l = subst (λ (z : ℤ). T (non_neg z)) (e ∙ sub_above a (suc h) l ∙ ap (λ (n : ℕ). neg_ℤ (pos n)) (some l)) tt

module _ (p k c : ℕ) {h : ℕ} (l : 128 ≤ c) (m : c ≤ 255) (e : in_plane p (pos (256 - c)) ≡ pos h) where
  number_back : number_of c ≡ negsuc (256 - suc c)
  number_back = rw (le-ltb c 128 l)

  size_back : halved_size p (suc (256 - suc c)) ≡ h
  size_back = ap (halved_size p) whole ∙ ap nat_abs (sym (plane_ahead p (256 - c)) ∙ e)
    where
      whole : suc (256 - suc c) ≡ 256 - c
      whole = omega arith

  pub back_most : Moves p k (number_of c) → h ≤ k * 2
  back_most o = twice (not_below (2 * k) h (half_place p k (number_of c)) (o.place ∙ ap (λ (z : ℤ). pos (2 * k) +ℤ z) (ap (in_plane p) number_back ∙ plane_back p (256 - suc c) ∙ ap (λ (n : ℕ). neg_ℤ (pos n)) size_back)))
    where
      twice : h ≤ 2 * k → h ≤ k * 2
      twice l = omega arith

  pub half_behind : Moves p k (number_of c) → k * 2 - h ≡ half_place p k (number_of c)
  half_behind o = sym (ap (half_place p k) number_back ∙ half_back p k (256 - suc c) (less (back_most o) size_back) ∙ ap (λ (n : ℕ). 2 * k - n) size_back ∙ twice)
    where
      less : {n : ℕ} → h ≤ k * 2 → n ≡ h → n ≤ 2 * k
      less a b = omega arith

      twice : 2 * k - h ≡ k * 2 - h
      twice = omega arith
