-- The digits that `io::decimal` puts are the number's. Assumes nothing.
use Prim.Native.Nat.{ℕ, zero, suc, ◌+◌, ◌-◌, ◌*◌, ◌/◌, ◌%◌, ◌^◌, ◌≤◌, ◌<◌}
use native.Mathlib.Omega.{arith}
use native.Mathlib.Nat.{pow-suc, add-suc}
use native.Mathlib.Numerals.{unary_clauses}
use borrow.Author.Tests.{lt-ltb, le-ltb, leb-true, leb-false}
use mathlib.Core.Path.{◌≡◌, refl, ap, ◌∙◌}
use mathlib.Core.Bool.{Bool, true, false}
use mathlib.Core.List.{List, [], ◌∷◌, ◌++◌}
use lib.Dec.{leb}
use lib.ListN.{take}
use Rattle.io.specs.Digits.{last_digits, hex_digit_ascii, IsDigitCount}
use Rattle.text.specs.Text.{digits_in, decimal}

digit : (d : ℕ) → d < 10 → hex_digit_ascii d ≡ 48 + d
digit d h = rw (lt-ltb d 10 h)

positive : (k : ℕ) → 0 < 10 ^ k
positive zero = omega arith
positive (suc k) = let p = positive k in omega (arith, pow-suc 10 k)

fewest_is : (places k n : ℕ) → suc k ≤ places → n < 10 ^ suc k → (1 ≤ k → 10 ^ k ≤ n) → last_digits 10 (suc k) n ≡ digits_in places n
unfolding digits_in
fewest_is (suc places) zero n h a b =
    let small : n < 10 = a in
    let same : n % 10 ≡ n = omega arith in
    rw (lt-ltb n 10 small) (ap (λ (x : ℕ). x ∷ []) (digit (n % 10) (omega arith) ∙ ap (λ (x : ℕ). 48 + x) same))
fewest_is (suc places) (suc k) n h a b =
    let e : 10 ^ suc k ≡ 10 ^ k * 10 = pow-suc 10 k in
    let e2 : 10 ^ suc (suc k) ≡ 10 ^ suc k * 10 = pow-suc 10 (suc k) in
    let low : 10 ^ suc k ≤ n = b (omega arith) in
    let some : 0 < 10 ^ k = positive k in
    let big : 10 ≤ n = omega arith in
    rw (le-ltb n 10 big)
    (ap (λ (l : List ℕ). l ++ (hex_digit_ascii (n % 10) ∷ [])) (fewest_is places k (n / 10) (omega arith) (omega arith) (λ _. omega arith))
    ∙ ap (λ (x : ℕ). digits_in places (n / 10) ++ (x ∷ [])) (digit (n % 10) (omega arith)))
fewest_is zero k n h a b = absurd (omega arith)

grows : (j : ℕ) → 100000000000000000000 ≤ 10 ^ (20 + j)
grows zero = omega arith
grows (suc j) = let p = grows j in let e : 10 ^ (20 + suc j) ≡ 10 ^ (20 + j) * 10 = ap (λ (m : ℕ). 10 ^ m) (add-suc 20 j) ∙ pow-suc 10 (20 + j) in omega arith

-- a number of 64 bits has at most twenty digits
pub twenty : {n k : ℕ} → n < 18446744073709551616 → IsDigitCount 10 1 n k → k ≤ 20
twenty {n} {k} h f = at (leb k 20) refl
  where
    at : (t : Bool) → leb k 20 ≡ t → k ≤ 20
    at true e = leb-true k 20 e
    at false e =
        let more : 20 < k = leb-false k 20 e in
        let is : k - 1 ≡ 20 + (k - 21) = omega arith in
        let low : 10 ^ (k - 1) ≤ n = f.2 (omega arith) in
        let same : 10 ^ (k - 1) ≡ 10 ^ (20 + (k - 21)) = ap (λ (m : ℕ). 10 ^ m) is in
        let big = grows (k - 21) in
        absurd (omega arith)

pub spelled : {n k : ℕ} (l : List ℕ) → n < 18446744073709551616 → IsDigitCount 10 1 n k → take k l ≡ last_digits 10 k n → take k l ≡ decimal n
unfolding decimal
spelled {n} {k} l h f e = e ∙ go k f
  where
    go : (k : ℕ) → IsDigitCount 10 1 n k → last_digits 10 k n ≡ digits_in 20 n
    go zero f = absurd (omega (arith, f.0))
    go (suc k) f = fewest_is 20 k n (twenty h f) f.1 (λ p. simp unary_clauses at (f.2 (omega arith)))
