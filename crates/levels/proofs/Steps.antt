-- The loop over the DC codes of six blocks, on plain values. Assumes nothing.
use mathlib.Core.Path.{◌≡◌, refl, sym, ap, ap₂, ◌∙◌}
use mathlib.Core.Bool.{Bool, true, false}
use mathlib.Core.List.{List}
use Prim.Native.Nat.{ℕ, zero, suc, ◌+◌, ◌-◌, ◌*◌, ◌≤◌, ◌<◌}
use native.Mathlib.Omega.{arith}
use borrow.Author.Tests.{ne_eqb}
use lib.ListN.{get_or, drop}
use lib.Seq.{drop-drop, get_or-drop}
use Rattle.laws.specs.Choice.{both, opposite}
use Rattle.layout.specs.Numbers.{is_zero, codes_first}

-- ---- the DC codes of six blocks: k are behind
pub record CodesSoFar (whole : Bool) (bytes : List ℕ) (k : ℕ) : Type 0 where
  pub left : ℕ
  pub count : k + left ≡ 6
  pub same : whole ≡ codes_first left (drop (k * 64) bytes)

pub codes_begin : (bytes : List ℕ) → CodesSoFar (codes_first 6 bytes) bytes 0
codes_begin bytes = record { left = 6; count = refl; same = refl }

codes_none : (n : ℕ) (l : List ℕ) → n ≡ 0 → codes_first n l ≡ true
unfolding codes_first
codes_none zero l e = refl
codes_none (suc n) l e = absurd (omega arith)

codes_one : (n : ℕ) (l : List ℕ) → codes_first (suc n) l ≡ both (opposite (is_zero (get_or l 0 0))) (codes_first n (drop 64 l))
unfolding codes_first
codes_one n l = refl

module _ {whole : Bool} {bytes : List ℕ} {k : ℕ} (h : CodesSoFar whole bytes k) where
  pub codes_done : 6 ≤ k → true ≡ whole
  codes_done l = sym (h.same ∙ codes_none h.left _ (omega (arith, h.count)))

  module _ (l : k < 6) where
    code_on : whole ≡ both (opposite (is_zero (get_or bytes (k * 64) 0))) (codes_first (5 - k) (drop ((k + 1) * 64) bytes))
    code_on =
        let e : h.left ≡ suc (5 - k) = omega (arith, h.count) in
        let z : k * 64 + 0 ≡ k * 64 = omega arith in
        let m : k * 64 + 64 ≡ (k + 1) * 64 = omega arith in
        h.same ∙ ap (λ (n : ℕ). codes_first n (drop (k * 64) bytes)) e ∙ codes_one (5 - k) (drop (k * 64) bytes)
        ∙ ap₂ (λ (x : ℕ) (y : List ℕ). both (opposite (is_zero x)) (codes_first (5 - k) y))
        (get_or-drop (k * 64) bytes 0 0 ∙ ap (λ (n : ℕ). get_or bytes n 0) z)
        (drop-drop 64 (k * 64) bytes ∙ ap (λ (n : ℕ). drop n bytes) m)

    pub codes_no : get_or bytes (k * 64) 0 ≡ 0 → false ≡ whole
    codes_no e = sym (code_on ∙ ap (λ (x : ℕ). both (opposite (is_zero x)) (codes_first (5 - k) (drop ((k + 1) * 64) bytes))) e)

    pub codes_more : (get_or bytes (k * 64) 0 ≡ 0 → ⊥) → CodesSoFar whole bytes (k + 1)
    codes_more n = record {
      left = 5 - k;
      count = omega arith;
      same = code_on ∙ ap (λ (b : Bool). both (opposite b) (codes_first (5 - k) (drop ((k + 1) * 64) bytes))) (ne_eqb (get_or bytes (k * 64) 0) 0 n);
    }
