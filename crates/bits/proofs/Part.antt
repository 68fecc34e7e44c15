-- Each entry of a part that passes a test does. Assumes nothing.
use mathlib.Core.Path.{◌≡◌, subst}
use mathlib.Core.Bool.{Bool}
use mathlib.Core.List.{List, [], ◌∷◌}
use Prim.Native.Nat.{ℕ, zero, suc, ◌+◌, ◌<◌}
use native.Mathlib.Nat.{add-zero, not-suc-le-zero, le_of_suc-le-suc}
use native.Mathlib.Omega.{arith}
use lib.Dec.{T}
use lib.ListN.{get_or, drop}
use lib.Seq.{get_or-drop}
use Rattle.laws.proofs.Choice.{both_left, both_right}
use Rattle.bits.specs.Part.{passes, part_passes}

passes_at : (test : ℕ → ℕ → Bool) (i n : ℕ) (es : List ℕ) → T (passes test i n es) → (j : ℕ) → j < n → T (test (i + j) (get_or es j 0))
unfolding passes
passes_at test i zero es t j l = absurd (not-suc-le-zero l)
passes_at test i (suc n) [] t j l = absurd t
passes_at test i (suc n) (e ∷ es) t zero l = rw (add-zero i) (both_left (test i e) (passes test (suc i) n es) t)
passes_at test i (suc n) (e ∷ es) t (suc j) l =
    let q : suc i + j ≡ i + suc j = omega arith in
    subst (λ (k : ℕ). T (test k (get_or es j 0))) q (passes_at test (suc i) n es (both_right (test i e) (passes test (suc i) n es) t) j (le_of_suc-le-suc l))

pub part_at : (test : ℕ → ℕ → Bool) (t : List ℕ) (from i n : ℕ) → T (part_passes test t from i n) → (j : ℕ) → j < n → T (test (i + j) (get_or t (from + j) 0))
part_at test t from i n ok j l = rw (get_or-drop from t j 0) at (passes_at test i n (drop from t) ok j l)
