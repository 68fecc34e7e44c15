-- Sums of pairs of products along a line, in bits and as numbers. Assumes nothing.
use mathlib.Core.Path.{◌≡◌, sym, subst, ◌∙◌}
use mathlib.Core.List.{List}
use Prim.Native.Nat.{ℕ, ◌^◌, ◌<◌}
use native.Mathlib.Nat.{le_of_suc-le-suc}
use lib.Dec.{T, ltb, ltb→lt}
use lib.IntN.{ℤ, nat_abs, ◌+ℤ◌, ◌-ℤ◌}
use lib.Signed.{mag}
use mir.Syntax.{w32}
use mir.Val.{to_z, of_z}
use Rattle.laws.specs.Integer.{Low}
use Rattle.laws.proofs.Integer.{low_mul, low_add, low_neg, result_is}
use Rattle.laws.specs.Linear.{Lin, eval, plus, less}
use Rattle.laws.proofs.Linear.{linear, coef, inside}
use Rattle.laws.specs.Table.{all_b, eq_z}
use Rattle.quantiser.specs.Lines.{entry, SmallRow}
use Rattle.inverse.specs.Passes.{Half, along, pair_of}
use Rattle.inverse.specs.Inverse.{A}

-- a number that a call gave is, read from its bits, a small sum over a line
pub record SumOver (f : List ℤ) (m : ℕ) (e : Lin) (r : ℤ) : Type 0 where
  pub is : to_z w32 (of_z w32 r) ≡ eval (entry f) e
  pub small : Low m (eval (entry f) e)

-- as a callee is asked for it
pub asked : {f : List ℤ} {m : ℕ} {e : Lin} {r : ℤ} → SumOver f m e r → Low m (to_z w32 (of_z w32 r))
asked {m = m} s = subst (λ (z : ℤ). Low m z) (sym s.is) s.small

pub half_asked : {f : List ℤ} {e a b : Lin} {p q r : ℤ} → SumOver f 186187776 e p → SumOver f 93093888 a q → SumOver f 93093888 b r → Half (to_z w32 (of_z w32 p)) (to_z w32 (of_z w32 q)) (to_z w32 (of_z w32 r))
half_asked s t u = record { evens = asked s; added = asked t; taken = asked u }

pub pair_is : (f : List ℤ) → SmallRow 16384 f → (i : ℕ) (k : ℤ) (j : ℕ) (l : ℤ) {r : ℤ} → T (ltb (nat_abs k) 2842) → T (ltb (nat_abs l) 2842) → mag r < 2 ^ 31 → r ≡ eval (entry f) (pair_of i k j l) → SumOver f 93093888 (pair_of i k j l) r
pair_is f s i k j l t u ok e = record { is = result_is w32 ok e; small = low_add (low_mul (s i) (factor_low k t)) (low_mul (s j) (factor_low l u)) }
  where
    factor_low : (z : ℤ) → T (ltb (nat_abs z) 2842) → Low 2841 z
    factor_low z t = record { low = le_of_suc-le-suc (ltb→lt (nat_abs z) 2842 t) }

module _ {f : List ℤ} {a b : Lin} {p q r : ℤ} (s : SumOver f 93093888 a p) (t : SumOver f 93093888 b q) (ok : mag r < 2 ^ 31) where
  pub sum_over : r ≡ to_z w32 (of_z w32 p) +ℤ to_z w32 (of_z w32 q) → SumOver f 186187776 (plus a b) r
  sum_over e = record { is = result_is w32 ok (e ∙ (λ i. s.is i +ℤ t.is i)); small = low_add s.small t.small }

  pub difference_over : r ≡ to_z w32 (of_z w32 p) -ℤ to_z w32 (of_z w32 q) → SumOver f 186187776 (less a b) r
  difference_over e = record { is = result_is w32 ok (e ∙ (λ i. s.is i -ℤ t.is i)); small = low_add s.small (low_neg t.small) }

-- ---- a line's sum at x, by the expression that its function computes
sum_is : (f : List ℤ) (x : ℕ) (e : Lin) {r : ℤ} → T (inside 8 e) → T (all_b 8 (λ j. eq_z (coef e j) (A j x))) → mag r < 2 ^ 31 → r ≡ eval (entry f) e → to_z w32 (of_z w32 r) ≡ along f x
unfolding along
sum_is f x e t s ok g = result_is w32 ok (g ∙ linear (entry f) 8 e (λ u. A u x) t s)

module _ {f : List ℤ} (x : ℕ) {e a b : Lin} {p q r z : ℤ} (s : SumOver f 186187776 e p) (t : SumOver f 93093888 a q) (u : SumOver f 93093888 b r) where
  pub joined_is : T (inside 8 (less (plus e a) b)) → T (all_b 8 (λ j. eq_z (coef (less (plus e a) b) j) (A j x))) → mag z < 2 ^ 31 → z ≡ to_z w32 (of_z w32 p) +ℤ to_z w32 (of_z w32 q) -ℤ to_z w32 (of_z w32 r) → to_z w32 (of_z w32 z) ≡ along f x
  joined_is i c ok g = sum_is f x (less (plus e a) b) i c ok (g ∙ (λ j. s.is j +ℤ t.is j -ℤ u.is j))
