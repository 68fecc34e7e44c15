-- Sums by their terms. Assumes nothing.
use mathlib.Core.Path.{◌≡◌, refl, sym, ap, ◌∙◌}
use Prim.Native.Nat.{ℕ, zero, suc, ◌*◌, ◌<◌, zero-le}
use native.Mathlib.Nat.{le_refl, le_of_eq, le_step, suc-mul}
use lib.IntN.{ℤ, ◌+ℤ◌, ◌*ℤ◌, zero-*ℤ}
use Rattle.laws.proofs.Integer.{+ℤ-*ℤ, low_add, low_up}
use Rattle.laws.specs.Integer.{Low}
use Rattle.laws.specs.Sum.{sum_z}

-- a factor goes in
pub sum-mul : (n : ℕ) (g : ℕ → ℤ) (k : ℤ) → sum_z n g *ℤ k ≡ sum_z n (λ i. g i *ℤ k)
unfolding sum_z
sum-mul zero g k = zero-*ℤ k
sum-mul (suc n) g k = +ℤ-*ℤ (sum_z n g) (g n) k ∙ ap (λ (z : ℤ). z +ℤ g n *ℤ k) (sum-mul n g k)

pub sum_ext : (n : ℕ) (g h : ℕ → ℤ) → ((i : ℕ) → i < n → g i ≡ h i) → sum_z n g ≡ sum_z n h
unfolding sum_z
sum_ext zero g h e = refl
sum_ext (suc n) g h e = λ i. sum_ext n g h (λ k l. e k (le_step l)) i +ℤ e n (le_refl (suc n)) i

-- n numbers, each at most m in size
pub low_sum : (n : ℕ) (g : ℕ → ℤ) {m : ℕ} → ((i : ℕ) → i < n → Low m (g i)) → Low (n * m) (sum_z n g)
unfolding sum_z
low_sum zero g b = record { low = zero-le }
low_sum (suc n) g {m} b = low_up _ (low_add (low_sum n g (λ i l. b i (le_step l))) (b n (le_refl (suc n)))) (le_of_eq (sym (suc-mul n m)))
