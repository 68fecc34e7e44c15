-- Bounds of whole numbers, and what fits a width. Assumes nothing.
use mathlib.Core.Path.{◌≡◌, refl, sym, ap, subst, ◌∙◌}
use mathlib.Core.Bool.{Bool, true, false, cond}
use Prim.Native.Nat.{ℕ, zero, suc, ◌+◌, ◌-◌, ◌*◌, ◌^◌, ◌≤◌, ◌<◌, suc-le-suc}
use native.Mathlib.Nat.{le_refl, le_trans, le_of_eq, le_step, le_of_suc-le, mul-le-mul_left, mul-le-mul_right, lt_of_le_of_lt, div-le_of_le-mul}
use native.Mathlib.Omega.{arith}
use lib.Dec.{T, ltb, ltb→lt}
use lib.IntN.{ℤ, pos, negsuc, suc_ℤ, pred_ℤ, neg_ℤ, nat_abs, sub_ℕ, ◌+ℤ◌, ◌-ℤ◌, ◌*ℤ◌, ℤ_ind, +ℤ-suc_ℤ, +ℤ-pred_ℤ, +ℤ_idr, +ℤ_one, -ℤ_one, +ℤ_assoc, zero-*ℤ, suc_ℤ-*ℤ, pred_ℤ-*ℤ}
use borrow.Author.Tests.{lt-ltb, le-ltb}
use lib.Signed.{mag, shr_z}
use mir.Syntax.{Width}
use mir.Val.{SFits, hbits, to_z, of_z}
use mir.Facts.{to_z-of_z}
use Rattle.laws.specs.Integer.{Low}

-- ---- the product distributes over the sum
module _ (a k : ℤ) where
  Dis : ℤ → Type 0
  Dis x = (a +ℤ x) *ℤ k ≡ a *ℤ k +ℤ x *ℤ k

  dis-suc : (x : ℤ) → Dis x → Dis (suc_ℤ x)
  unfolding Dis
  dis-suc x h =
      ap (λ (z : ℤ). z *ℤ k) (+ℤ-suc_ℤ a x) ∙ suc_ℤ-*ℤ (a +ℤ x) k ∙ ap (λ (z : ℤ). z +ℤ k) h
      ∙ +ℤ_assoc (a *ℤ k) (x *ℤ k) k ∙ ap (λ (z : ℤ). a *ℤ k +ℤ z) (sym (suc_ℤ-*ℤ x k))

  dis_pred : (x : ℤ) → Dis x → Dis (pred_ℤ x)
  unfolding Dis
  dis_pred x h =
      ap (λ (z : ℤ). z *ℤ k) (+ℤ-pred_ℤ a x) ∙ pred_ℤ-*ℤ (a +ℤ x) k ∙ ap (λ (z : ℤ). z -ℤ k) h
      ∙ +ℤ_assoc (a *ℤ k) (x *ℤ k) (neg_ℤ k) ∙ ap (λ (z : ℤ). a *ℤ k +ℤ z) (sym (pred_ℤ-*ℤ x k))

  dis-zero : Dis (pos 0)
  unfolding Dis
  dis-zero = ap (λ (z : ℤ). z *ℤ k) (+ℤ_idr a) ∙ sym (ap (λ (z : ℤ). a *ℤ k +ℤ z) (zero-*ℤ k) ∙ +ℤ_idr (a *ℤ k))

  dis : (x : ℤ) → Dis x
  dis x =
      ℤ_ind Dis dis-zero
      (λ n h. subst Dis (sym (+ℤ_one (pos n))) (dis-suc (pos n) h))
      (λ n h. subst Dis (sym (-ℤ_one (neg_ℤ (pos n)))) (dis_pred (neg_ℤ (pos n)) h)) x

pub +ℤ-*ℤ : (a b k : ℤ) → (a +ℤ b) *ℤ k ≡ a *ℤ k +ℤ b *ℤ k
unfolding Dis
+ℤ-*ℤ a b k = dis a k b

-- ---- the size of a number, in ℕ
pub abs_neg : (z : ℤ) → nat_abs (neg_ℤ z) ≡ nat_abs z
abs_neg (pos zero) = refl
abs_neg (pos (suc n)) = refl
abs_neg (negsuc n) = refl

abs_sub : (c : Bool) (a b : ℕ) → nat_abs (cond c (negsuc (suc b - suc a)) (pos (a - suc b))) ≤ a + suc b
abs_sub true a b = omega arith
abs_sub false a b = omega arith

pub abs_add : (a b : ℤ) → nat_abs (a +ℤ b) ≤ nat_abs a + nat_abs b
abs_add (pos a) (pos b) = le_refl (a + b)
abs_add (pos a) (negsuc b) = abs_sub (ltb a (suc b)) a b
abs_add (negsuc a) (pos b) =
    le_trans (abs_sub (ltb b (suc a)) b a) (swap b a)
  where
    swap : (b a : ℕ) → b + suc a ≤ suc a + b
    swap b a = omega arith
abs_add (negsuc a) (negsuc b) = omega arith

pub abs_mul : (a b : ℤ) → nat_abs (a *ℤ b) ≡ nat_abs a * nat_abs b
abs_mul (pos a) (pos b) = refl
abs_mul (pos a) (negsuc b) = abs_neg (pos (a * suc b))
abs_mul (negsuc a) (pos b) = abs_neg (pos (suc a * b))
abs_mul (negsuc a) (negsuc b) = refl

-- ---- a difference of naturals, by which is more
pub sub_below : (a b : ℕ) → b ≤ a → sub_ℕ a b ≡ pos (a - b)
sub_below a b l = ap (λ (t : Bool). cond t (negsuc (b - suc a)) (pos (a - b))) (le-ltb a b l)

pub sub_above : (a b : ℕ) → a < b → sub_ℕ a b ≡ neg_ℤ (pos (b - a))
sub_above a b l = ap (λ (t : Bool). cond t (negsuc (b - suc a)) (pos (a - b))) (lt-ltb a b l) ∙ ap (λ (n : ℕ). neg_ℤ (pos n)) (less l)
  where
    less : {a b : ℕ} → a < b → suc (b - suc a) ≡ b - a
    less l = omega arith

pub low_mul : {a b : ℤ} {m n : ℕ} → Low m a → Low n b → Low (m * n) (a *ℤ b)
low_mul {a} {b} {m} {n} p q =
    record { low = le_trans (le_of_eq (abs_mul a b)) (le_trans (mul-le-mul_left (nat_abs a) q.low) (mul-le-mul_right n p.low)) }

pub low_add : {a b : ℤ} {m n : ℕ} → Low m a → Low n b → Low (m + n) (a +ℤ b)
low_add {a} {b} p q = record { low = omega (arith, abs_add a b) }

pub low_neg : {a : ℤ} {m : ℕ} → Low m a → Low m (neg_ℤ a)
low_neg {a} p = record { low = le_trans (le_of_eq (abs_neg a)) p.low }

pub low_up : {a : ℤ} {m : ℕ} (n : ℕ) → Low m a → m ≤ n → Low n a
low_up n p l = record { low = le_trans p.low l }

mag_abs : (z : ℤ) → mag z ≤ nat_abs z
mag_abs (pos n) = le_refl n
mag_abs (negsuc n) = omega arith

-- what is small fits
pub low_fits : {w : Width} {z : ℤ} {m : ℕ} → T (ltb m (2 ^ hbits w)) → Low m z → SFits w z
low_fits {w} {z} {m} t p = record { sfits = lt_of_le_of_lt (le_trans (mag_abs z) p.low) (ltb→lt m (2 ^ hbits w) t) }

-- and is read back from its bits
pub back : (w : Width) {z : ℤ} {m : ℕ} → T (ltb m (2 ^ hbits w)) → Low m z → to_z w (of_z w z) ≡ z
back w t p = to_z-of_z (low_fits t p)

-- what a call gives, z, is read back from its bits
pub result_is : (w : Width) {r z : ℤ} → mag r < 2 ^ hbits w → r ≡ z → to_z w (of_z w r) ≡ z
result_is w ok e = to_z-of_z (record { sfits = ok }) ∙ e

pub low_back : (w : Width) {z : ℤ} {m : ℕ} → T (ltb m (2 ^ hbits w)) → Low m z → Low m (to_z w (of_z w z))
low_back w {z} {m} t p = subst (λ (x : ℤ). Low m x) (sym (back w t p)) p

-- a division that rounds down: at most the quotient, and one more
pub low_shr : {z : ℤ} {k : ℕ} (m n : ℕ) → Low k z → k ≤ m * n → Low (suc n) (shr_z z m)
low_shr {z = pos a} {k} m n p l = record { low = le_step (div-le_of_le-mul m (le_trans p.low l)) }
low_shr {z = negsuc a} {k} m n p l = record { low = suc-le-suc (div-le_of_le-mul m (le_trans (le_of_suc-le p.low) l)) }
