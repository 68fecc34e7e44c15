-- A test over all entries of a table holds at each. Assumes nothing.
use mathlib.Core.Path.{◌≡◌, sym, ap, subst, ◌∙◌}
use mathlib.Core.Bool.{Bool, true}
use mathlib.Core.Logic.{⊎_elim}
use mathlib.Core.List.{List, [], ◌∷◌}
use Prim.Native.Nat.{ℕ, zero, suc, ◌+◌, ◌≤◌, ◌<◌, zero-le}
use native.Mathlib.Nat.{add-zero, add-suc, eq-or-lt_of_le, le_of_suc-le-suc, not-suc-le-zero}
use lib.Dec.{T, leb, leb→le}
use lib.IntN.{ℤ, pos, negsuc}
use lib.ListN.{get_or}
use mir.Facts.{eqb_yes}
use Rattle.laws.specs.Choice.{both}
use Rattle.laws.proofs.Choice.{both_left, both_right, both_assoc}
use Rattle.laws.specs.Table.{eq_z, all_b}

pub all_at : (n : ℕ) (p : ℕ → Bool) → T (all_b n p) → (k : ℕ) → k < n → T (p k)
all_at zero p t k l = absurd (not-suc-le-zero l)
all_at (suc n) p t k l =
    ⊎_elim (λ e. subst (λ (m : ℕ). T (p m)) (sym e) (both_left (p n) (all_b n p) t))
    (λ s. all_at n p (both_right (p n) (all_b n p) t) k s) (eq-or-lt_of_le (le_of_suc-le-suc l))

-- a test of m numbers and of the n after them
pub all_split : (m n : ℕ) (p : ℕ → Bool) → all_b (m + n) p ≡ both (all_b n (λ k. p (m + k))) (all_b m p)
all_split m zero p = ap (λ (k : ℕ). all_b k p) (add-zero m)
all_split m (suc n) p =
    ap (λ (k : ℕ). all_b k p) (add-suc m n) ∙ ap (both (p (m + n))) (all_split m n p)
    ∙ both_assoc (p (m + n)) (all_b n (λ k. p (m + k))) (all_b m p)

pub eq_z_yes : (a b : ℤ) → T (eq_z a b) → a ≡ b
eq_z_yes (pos a) (pos b) t = ap pos (eqb_yes t)
eq_z_yes (pos a) (negsuc b) t = absurd t
eq_z_yes (negsuc a) (pos b) t = absurd t
eq_z_yes (negsuc a) (negsuc b) t = ap negsuc (eqb_yes t)

-- each number of a list is at most m
abbrev pub low_b : ℕ → List ℕ → Bool
low_b m [] = true
low_b m (x ∷ xs) = both (leb x m) (low_b m xs)

pub low_at : (m : ℕ) (xs : List ℕ) → T (low_b m xs) → (k : ℕ) → get_or xs k 0 ≤ m
low_at m [] t k = zero-le
low_at m (x ∷ xs) t zero = leb→le x m (both_left (leb x m) (low_b m xs) t)
low_at m (x ∷ xs) t (suc k) = low_at m xs (both_right (leb x m) (low_b m xs) t) k
