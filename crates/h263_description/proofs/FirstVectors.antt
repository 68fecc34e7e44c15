-- The first vectors that a description's bytes say, as a list, and what they predict. Assumes nothing.
use Prim.Native.Nat.{ℕ, zero, suc, ◌+◌, ◌≤◌, ◌<◌}
use mathlib.Core.Path.{◌≡◌, refl, ap, ◌∙◌}
use mathlib.Core.Bool.{Bool}
use mathlib.Core.Logic.{◌⊎◌, inl, inr}
use mathlib.Core.List.{List, [], ◌∷◌, ◌++◌}
use native.Mathlib.Omega.{arith}
use native.Mathlib.Numerals.{add-one}
use lib.ListN.{length, get_or, length-append, get_or-append}
use lib.Seq.{get_or-append_seam}
use Rattle.laws.proofs.Rows.{lt-or-ge}
use Rattle.layout.specs.Value.{zero_vector}
use Rattle.h263_description.specs.Vector.{vectors_of, predictor}
use Rattle.h263_description.specs.Kept.{vectors_in, first_vectors}
use Rattle.h263_description.proofs.Predictor.{predictor_same}

pub first_more : (m : List ℕ) (n : ℕ) → first_vectors m n ++ (vectors_in m n ∷ []) ≡ first_vectors m (n + 1)
unfolding first_vectors
first_more m n = rw (add-one n)

pub first_long : (m : List ℕ) (n : ℕ) → length (first_vectors m n) ≡ n
unfolding first_vectors
first_long m zero = refl
first_long m (suc n) = omega (arith, length-append (first_vectors m n) (vectors_in m n ∷ []), first_long m n)

-- those of bytes that say the same
pub first_same : (m l : List ℕ) (n : ℕ) → ((k : ℕ) → k < n → vectors_in m k ≡ vectors_in l k) → first_vectors m n ≡ first_vectors l n
unfolding first_vectors
first_same m l zero h = refl
first_same m l (suc n) h =
    let before = first_same m l n (λ k b. h k (omega arith)) in
    let last = h n (omega arith) in
    λ i. before i ++ last i ∷ []

first_at : (m : List ℕ) (n k : ℕ) → k < n → get_or (first_vectors m n) k zero_vector ≡ vectors_in m k
unfolding first_vectors
first_at m zero k l = absurd (omega arith)
first_at m (suc n) k l = go (first_at m n k) (lt-or-ge k n)
  where
    go : (k < n → get_or (first_vectors m n) k zero_vector ≡ vectors_in m k) → (k < n) ⊎ (n ≤ k) → get_or (first_vectors m n ++ (vectors_in m n ∷ [])) k zero_vector ≡ vectors_in m k
    go before (inl h) = get_or-append (first_vectors m n) (vectors_in m n ∷ []) zero_vector k (omega (arith, first_long m n)) ∙ before h
    go before (inr h) =
        let at : k ≡ length (first_vectors m n) = omega (arith, first_long m n) in
        let same : n ≡ k = omega arith in
        ap (λ (j : ℕ). get_or (first_vectors m n ++ (vectors_in m n ∷ [])) j zero_vector) at ∙ get_or-append_seam (first_vectors m n) (vectors_in m n) [] zero_vector ∙ ap (vectors_in m) same

-- what predicts the next is what predicts it from the bytes
pub predictor_first : (across : ℕ) (headed : Bool) (m : List ℕ) (n : ℕ) → 1 ≤ across
    → predictor across headed (vectors_of (first_vectors m n)) (length (first_vectors m n)) ≡ predictor across headed (vectors_in m) n
predictor_first across headed m n l =
    ap (predictor across headed (vectors_of (first_vectors m n))) (first_long m n)
    ∙ predictor_same across l headed n (vectors_of (first_vectors m n)) (vectors_in m) (λ k h. first_at m n k h)
