-- Linear sums of whole numbers are equal where their coefficients are. Assumes nothing.
use mathlib.Core.Path.{◌≡◌, refl, sym, ap, ◌∙◌}
use mathlib.Core.Logic.{⊎_elim}
use mathlib.Core.Bool.{Bool, cond}
use Prim.Native.Nat.{ℕ, zero, suc, ◌≤◌, ◌<◌}
use native.Mathlib.Nat.{eq-or-lt_of_le, le_of_suc-le, le_of_suc-le-suc, not-suc-le-zero}
use native.Mathlib.Omega.{arith}
use borrow.Author.Tests.{eq-eqb, ne_eqb}
use lib.Dec.{T, eqb, ltb, ltb→lt}
use lib.IntN.{ℤ, pos, negsuc, neg_ℤ, ◌+ℤ◌, ◌-ℤ◌, ◌*ℤ◌, +ℤ_assoc, +ℤ_comm, +ℤ_idl, +ℤ_idr, neg_ℤ-+ℤ, neg_ℤ-neg_ℤ, *ℤ_comm, *ℤ-zero, zero-*ℤ, suc_ℤ-*ℤ, *ℤ-negsuc}
use Rattle.laws.proofs.Integer.{+ℤ-*ℤ}
use Rattle.laws.specs.Sum.{sum_z}
use Rattle.laws.proofs.Sum.{sum_ext}
use Rattle.laws.specs.Choice.{both}
use Rattle.laws.proofs.Choice.{both_left, both_right}
use Rattle.laws.specs.Table.{all_b, eq_z}
use Rattle.laws.proofs.Table.{all_at, eq_z_yes}
use Rattle.laws.specs.Linear.{term, Lin, eval, plus, less}

-- ---- a few more laws
pub *ℤ-+ℤ : (k a b : ℤ) → k *ℤ (a +ℤ b) ≡ k *ℤ a +ℤ k *ℤ b
*ℤ-+ℤ k a b = *ℤ_comm k (a +ℤ b) ∙ +ℤ-*ℤ a b k ∙ (λ i. *ℤ_comm a k i +ℤ *ℤ_comm b k i)

pub *ℤ-neg : (a b : ℤ) → a *ℤ neg_ℤ b ≡ neg_ℤ (a *ℤ b)
*ℤ-neg a (pos zero) = *ℤ-zero a ∙ sym (ap neg_ℤ (*ℤ-zero a))
*ℤ-neg a (pos (suc n)) = *ℤ-negsuc a n
*ℤ-neg a (negsuc n) = sym (neg_ℤ-neg_ℤ (a *ℤ pos (suc n))) ∙ sym (ap neg_ℤ (*ℤ-negsuc a n))

-- (a + b) + (c + d) = (a + c) + (b + d)
pub swap : (a b c d : ℤ) → (a +ℤ b) +ℤ (c +ℤ d) ≡ (a +ℤ c) +ℤ (b +ℤ d)
swap a b c d =
    +ℤ_assoc a b (c +ℤ d)
    ∙ ap (λ (z : ℤ). a +ℤ z) (sym (+ℤ_assoc b c d) ∙ ap (λ (z : ℤ). z +ℤ d) (+ℤ_comm b c) ∙ +ℤ_assoc c b d)
    ∙ sym (+ℤ_assoc a c (b +ℤ d))

pub sum-add : (n : ℕ) (g h : ℕ → ℤ) → sum_z n (λ i. g i +ℤ h i) ≡ sum_z n g +ℤ sum_z n h
unfolding sum_z
sum-add zero g h = refl
sum-add (suc n) g h = ap (λ (z : ℤ). z +ℤ (g n +ℤ h n)) (sum-add n g h) ∙ swap (sum_z n g) (sum_z n h) (g n) (h n)

pub sum_neg : (n : ℕ) (g : ℕ → ℤ) → sum_z n (λ i. neg_ℤ (g i)) ≡ neg_ℤ (sum_z n g)
unfolding sum_z
sum_neg zero g = refl
sum_neg (suc n) g = ap (λ (z : ℤ). z +ℤ neg_ℤ (g n)) (sum_neg n g) ∙ sym (neg_ℤ-+ℤ (sum_z n g) (g n))

-- ---- one entry
module _ (ρ : ℕ → ℤ) (k : ℤ) where
  abbrev at_one : ℕ → ℕ → ℤ
  at_one i j = ρ j *ℤ cond (eqb i j) k (pos 0)

  other : (i j : ℕ) → (i ≡ j → ⊥) → at_one i j ≡ pos 0
  other i j n = ap (λ (b : Bool). ρ j *ℤ cond b k (pos 0)) (ne_eqb i j n) ∙ *ℤ-zero (ρ j)

  none : (n i : ℕ) → n ≤ i → sum_z n (λ j. at_one i j) ≡ pos 0
  unfolding sum_z
  none zero i l = refl
  none (suc n) i l = (λ t. none n i (le_of_suc-le l) t +ℤ other i n (apart l) t)
    where
      apart : {n i : ℕ} → suc n ≤ i → i ≡ n → ⊥
      apart h e = omega arith

  single : (n i : ℕ) → i < n → sum_z n (λ j. at_one i j) ≡ ρ i *ℤ k
  unfolding sum_z
  single zero i l = absurd (not-suc-le-zero l)
  single (suc n) i l =
      ⊎_elim
      (λ e.
      (λ t. none n i (ge e) t +ℤ ρ n *ℤ cond (eq-eqb i n e t) k (pos 0))
      ∙ +ℤ_idl (ρ n *ℤ k) ∙ ap (λ (m : ℕ). ρ m *ℤ k) (sym e))
      (λ s. (λ t. single n i s t +ℤ other i n (apart s) t) ∙ +ℤ_idr (ρ i *ℤ k))
      (eq-or-lt_of_le (le_of_suc-le-suc l))
    where
      ge : {n i : ℕ} → i ≡ n → n ≤ i
      ge e = omega arith

      apart : {n i : ℕ} → i < n → i ≡ n → ⊥
      apart h e = omega arith

abbrev pub coef : Lin → ℕ → ℤ
coef (term i k) j = cond (eqb i j) k (pos 0)
coef (plus a b) j = coef a j +ℤ coef b j
coef (less a b) j = coef a j -ℤ coef b j

abbrev pub inside : ℕ → Lin → Bool
inside n (term i k) = ltb i n
inside n (plus a b) = both (inside n a) (inside n b)
inside n (less a b) = both (inside n a) (inside n b)

module _ (ρ : ℕ → ℤ) (n : ℕ) where
  pub sound : (e : Lin) → T (inside n e) → eval ρ e ≡ sum_z n (λ j. ρ j *ℤ coef e j)
  sound (term i k) t = sym (single ρ k n i (ltb→lt i n t))
  sound (plus a b) t =
      (λ s. sound a (both_left (inside n a) (inside n b) t) s +ℤ sound b (both_right (inside n a) (inside n b) t) s)
      ∙ sym (sum-add n (λ j. ρ j *ℤ coef a j) (λ j. ρ j *ℤ coef b j))
      ∙ sum_ext n _ _ (λ j l. sym (*ℤ-+ℤ (ρ j) (coef a j) (coef b j)))
  sound (less a b) t =
      (λ s. sound a (both_left (inside n a) (inside n b) t) s +ℤ neg_ℤ (sound b (both_right (inside n a) (inside n b) t) s))
      ∙ ap (λ (z : ℤ). sum_z n (λ j. ρ j *ℤ coef a j) +ℤ z) (sym (sum_neg n (λ j. ρ j *ℤ coef b j)))
      ∙ sym (sum-add n (λ j. ρ j *ℤ coef a j) (λ j. neg_ℤ (ρ j *ℤ coef b j)))
      ∙ sum_ext n _ _ (λ j l. sym (*ℤ-+ℤ (ρ j) (coef a j) (neg_ℤ (coef b j)) ∙ ap (λ (z : ℤ). ρ j *ℤ coef a j +ℤ z) (*ℤ-neg (ρ j) (coef b j))))

  -- an expression whose coefficients are those of a is the sum over a
  pub linear : (e : Lin) (a : ℕ → ℤ) → T (inside n e) → T (all_b n (λ j. eq_z (coef e j) (a j))) → eval ρ e ≡ sum_z n (λ j. ρ j *ℤ a j)
  linear e a t s = sound e t ∙ sum_ext n _ _ (λ j l. ap (λ (z : ℤ). ρ j *ℤ z) (eq_z_yes (coef e j) (a j) (all_at n (λ j. eq_z (coef e j) (a j)) s j l)))

-- a natural factor goes past another
pub mul_past : (a b : ℤ) (k : ℕ) → a *ℤ b *ℤ pos k ≡ a *ℤ pos k *ℤ b
mul_past a b zero = *ℤ-zero (a *ℤ b) ∙ sym (ap (λ (z : ℤ). z *ℤ b) (*ℤ-zero a) ∙ zero-*ℤ b)
mul_past a b (suc k) =
    next (a *ℤ b) k ∙ ap (λ (z : ℤ). z +ℤ a *ℤ b) (mul_past a b k) ∙ sym (+ℤ-*ℤ (a *ℤ pos k) a b) ∙ ap (λ (z : ℤ). z *ℤ b) (sym (next a k))
  where
    next : (z : ℤ) (k : ℕ) → z *ℤ pos (suc k) ≡ z *ℤ pos k +ℤ z
    next z k = *ℤ_comm z (pos (suc k)) ∙ suc_ℤ-*ℤ (pos k) z ∙ ap (λ (y : ℤ). y +ℤ z) (*ℤ_comm (pos k) z)
