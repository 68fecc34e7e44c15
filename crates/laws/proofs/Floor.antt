-- Division rounded down, of whole numbers. Assumes nothing.
use mathlib.Core.Path.{◌≡◌, refl, sym, ap, subst, ◌∙◌}
use Prim.Native.Nat.{ℕ, suc, ◌+◌, ◌*◌, ◌-◌, ◌/◌, ◌%◌, ◌<◌, zero-le}
use native.Mathlib.Nat.{div-add-mod', div-div-eq-div-mul, mul-add-div_right, div-eq_of_lt, mod-lt, suc-mul, le_of_lt, lt_of_le_of_lt, add-zero}
use native.Mathlib.Omega.{arith}
use lib.IntN.{ℤ, pos, negsuc, neg_ℤ, ◌+ℤ◌, ◌-ℤ◌, ◌*ℤ◌, +ℤ_assoc, +ℤ_comm, +ℤ_idr, neg_ℤ-+ℤ, -ℤ-+ℤ_cancel, +ℤ-neg_ℤ_cancel, pos-+ℤ-pos, negsuc-*ℤ-pos, pos-*ℤ-pos}
use lib.Signed.{shr_z}
use Rattle.laws.proofs.Integer.{+ℤ-*ℤ}
use Rattle.laws.specs.Integer.{Low}
use Rattle.laws.specs.Floor.{floor_divided}

-- the machine's shift to the right rounds down
pub floor_shift : (z : ℤ) (m : ℕ) → floor_divided z m ≡ shr_z z m
unfolding floor_divided
floor_shift (pos a) m = refl
floor_shift (negsuc a) m = refl

-- by m, then by n, is by m n
pub floor_floor : (z : ℤ) (m n : ℕ) → floor_divided (floor_divided z m) n ≡ floor_divided z (m * n)
unfolding floor_divided
floor_floor (pos a) m n = ap pos (div-div-eq-div-mul a m n)
floor_floor (negsuc a) m n = ap negsuc (div-div-eq-div-mul a m n)

-- - (n + 1 + r) + r = - (n + 1)
less_more : (n r k : ℕ) → k ≡ suc n + r → neg_ℤ (pos k) +ℤ pos r ≡ negsuc n
less_more n r k e =
    ap (λ (i : ℕ). neg_ℤ (pos i) +ℤ pos r) e ∙ ap (λ (z : ℤ). neg_ℤ z +ℤ pos r) (sym (pos-+ℤ-pos (suc n) r))
    ∙ ap (λ (z : ℤ). z +ℤ pos r) (neg_ℤ-+ℤ (pos (suc n)) (pos r)) ∙ -ℤ-+ℤ_cancel (negsuc n) (pos r)

-- the quotient is the only one that leaves a rest below m
pub floor_unique : (q : ℤ) (r m : ℕ) → r < m → floor_divided (q *ℤ pos m +ℤ pos r) m ≡ q
unfolding floor_divided
floor_unique (pos k) r m l =
    ap (λ (z : ℤ). floor_divided z m) (ap (λ (z : ℤ). z +ℤ pos r) (pos-*ℤ-pos k m) ∙ pos-+ℤ-pos (k * m) r)
    ∙ ap pos (mul-add-div_right (lt_of_le_of_lt zero-le l) k r ∙ ap (λ (i : ℕ). k + i) (div-eq_of_lt l) ∙ add-zero k)
floor_unique (negsuc k) r m l =
    ap (λ (z : ℤ). floor_divided z m)
    (ap (λ (z : ℤ). z +ℤ pos r) (negsuc-*ℤ-pos k m) ∙ less_more (k * m + (m - suc r)) r (suc k * m) (suc-mul k m ∙ whole (k * m) m r l))
    ∙ ap negsuc (mul-add-div_right (lt_of_le_of_lt zero-le l) k (m - suc r) ∙ ap (λ (i : ℕ). k + i) (div-eq_of_lt (below l)) ∙ add-zero k)
  where
    below : {r m : ℕ} → r < m → m - suc r < m
    below l = omega arith

    whole : (km m r : ℕ) → r < m → km + m ≡ suc (km + (m - suc r)) + r
    whole km m r l = omega arith

-- z is its quotient's multiple, and a rest
pub record Rest (z : ℤ) (m : ℕ) : Type 0 where
  pub rest : ℕ
  pub below : rest < m
  pub whole : z ≡ floor_divided z m *ℤ pos m +ℤ pos rest

pub floor_rest : (z : ℤ) (m : ℕ) → 0 < m → Rest z m
unfolding floor_divided
floor_rest (pos a) m l =
    record {
      rest = a % m;
      below = mod-lt a l;
      whole = ap pos (sym (div-add-mod' a m)) ∙ sym (pos-+ℤ-pos (a / m * m) (a % m)) ∙ ap (λ (z : ℤ). z +ℤ pos (a % m)) (sym (pos-*ℤ-pos (a / m) m));
    }
floor_rest (negsuc a) m l =
    record {
      rest = m - suc (a % m);
      below = less (a % m) m l;
      whole = sym (ap (λ (z : ℤ). z +ℤ pos (m - suc (a % m))) (negsuc-*ℤ-pos (a / m) m) ∙ less_more a (m - suc (a % m)) (suc (a / m) * m) (suc-mul (a / m) m ∙ sum (a / m * m) (a % m) a m (mod-lt a l) (div-add-mod' a m)));
    }
  where
    less : (i m : ℕ) → 0 < m → m - suc i < m
    less i m l = omega arith

    sum : (q i a m : ℕ) → i < m → q + i ≡ a → q + m ≡ suc a + (m - suc i)
    sum q i a m l e = omega arith

-- a multiple of m goes out
pub floor_add : (h z : ℤ) (m : ℕ) → 0 < m → floor_divided (h *ℤ pos m +ℤ z) m ≡ h +ℤ floor_divided z m
floor_add h z m l =
    let k = floor_rest z m l in
    ap (λ (y : ℤ). floor_divided (h *ℤ pos m +ℤ y) m) k.whole
    ∙ ap (λ (y : ℤ). floor_divided y m) (sym (+ℤ_assoc (h *ℤ pos m) (floor_divided z m *ℤ pos m) (pos k.rest)) ∙ ap (λ (y : ℤ). y +ℤ pos k.rest) (sym (+ℤ-*ℤ h (floor_divided z m) (pos m))))
    ∙ floor_unique (h +ℤ floor_divided z m) k.rest m k.below

-- a multiple divides without rest
pub floor_exact : (z : ℤ) (m : ℕ) → 0 < m → floor_divided (z *ℤ pos m) m ≡ z
floor_exact z m l = ap (λ (y : ℤ). floor_divided y m) (sym (+ℤ_idr (z *ℤ pos m))) ∙ floor_unique z 0 m l

-- what is left when the multiple is taken away
pub floor_left : (z : ℤ) (m : ℕ) (l : 0 < m) → z -ℤ floor_divided z m *ℤ pos m ≡ pos (floor_rest z m l).rest
floor_left z m l =
    let k = floor_rest z m l in
    let q = floor_divided z m *ℤ pos m in
    ap (λ (y : ℤ). y -ℤ q) (k.whole ∙ +ℤ_comm q (pos k.rest)) ∙ +ℤ-neg_ℤ_cancel (pos k.rest) q

pub left_low : (z : ℤ) (m : ℕ) → 0 < m → Low m (z -ℤ floor_divided z m *ℤ pos m)
left_low z m l = subst (λ (y : ℤ). Low m y) (sym (floor_left z m l)) (record { low = le_of_lt (floor_rest z m l).below })
