-- The list of f 0, f 1, .. by its places. Assumes nothing.
use mathlib.Core.Path.{◌≡◌, refl, sym, ap, ◌∙◌}
use mathlib.Core.Logic.{⊎_elim}
use mathlib.Core.List.{List, [], ◌∷◌, ◌++◌, append-nil, append_assoc}
use Prim.Native.Nat.{ℕ, zero, suc, ◌+◌, ◌<◌}
use native.Mathlib.Nat.{add-zero, add-suc, eq-or-lt_of_le, le_of_suc-le-suc, not-suc-le-zero}
use native.Mathlib.Omega.{arith}
use lib.ListN.{length, get_or, length-append, get_or-append}
use lib.Seq.{get_or_at, ext_get_or}
use Rattle.laws.specs.Row.{row}

module _ {A : Type 0} where
  pub length-row : (n : ℕ) (f : ℕ → A) → length (row n f) ≡ n
  unfolding row
  length-row zero f = refl
  length-row (suc n) f = omega (arith, length-append (row n f) (f n ∷ []), length-row n f)

  pub get_d_row : (n : ℕ) (f : ℕ → A) (d : A) (i : ℕ) → i < n → get_or (row n f) i d ≡ f i
  unfolding row
  get_d_row zero f d i l = absurd (not-suc-le-zero l)
  get_d_row (suc n) f d i l =
      ⊎_elim
      (λ e. ap (λ (k : ℕ). get_or (row n f ++ (f n ∷ [])) k d) e ∙ get_or_at (row n f) (f n) [] d n (length-row n f) ∙ ap f (sym e))
      (λ s. get_or-append (row n f) (f n ∷ []) d i (inside s) ∙ get_d_row n f d i s)
      (eq-or-lt_of_le (le_of_suc-le-suc l))
    where
      inside : i < n → i < length (row n f)
      inside s = omega (arith, length-row n f)

  pub row-append : (n m : ℕ) (f : ℕ → A) → row n f ++ row m (λ j. f (n + j)) ≡ row (n + m) f
  unfolding row
  row-append n zero f = append-nil (row n f) ∙ ap (λ (k : ℕ). row k f) (sym (add-zero n))
  row-append n (suc m) f =
      sym (append_assoc (row n f) (row m (λ j. f (n + j))) (f (n + m) ∷ []))
      ∙ ap (λ (l : List A). l ++ (f (n + m) ∷ [])) (row-append n m f) ∙ ap (λ (k : ℕ). row k f) (sym (add-suc n m))

  -- a list is the row of its entries
  pub is_row : (d : A) (s : List A) (n : ℕ) (f : ℕ → A) → length s ≡ n → ((i : ℕ) → i < n → get_or s i d ≡ f i) → s ≡ row n f
  is_row d s n f e h = ext_get_or d s (row n f) (e ∙ sym (length-row n f)) (λ i l. at i (omega (arith, e)))
    where
      at : (i : ℕ) → i < n → get_or s i d ≡ get_or (row n f) i d
      at i l = h i l ∙ sym (get_d_row n f d i l)
