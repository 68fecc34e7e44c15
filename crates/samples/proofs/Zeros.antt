-- Which levels of a block are 0, by the bits of several together. Assumes nothing.
use mathlib.Core.Path.{◌≡◌, sym, ap, ◌∙◌}
use mathlib.Core.Bool.{Bool, false}
use mathlib.Core.Logic.{◌≢◌}
use mathlib.Core.List.{List}
use Prim.Native.Nat.{ℕ, ◌+◌, ◌≤◌}
use native.Mathlib.Nat.{add-zero, add_assoc, le_antisymm}
use native.Mathlib.Numerals.{add-one}
use native.Mathlib.Omega.{arith}
use native.Mathlib.Decide.{ℕ_discrete}
use borrow.Author.Tests.{eq-eqb, ne_eqb}
use lib.Bits.{bit_or, or_add_and, and_le_l, and_le_r}
use lib.Dec.{eqb}
use lib.ListN.{get_or}
use Rattle.laws.specs.Choice.{both}
use Rattle.laws.proofs.Choice.{both_true, second_no}
use Rattle.laws.specs.Table.{all_b}
use Rattle.laws.proofs.Table.{all_split}
use Rattle.quantiser.specs.Level.{bytes_from}

-- the bits of two numbers together are 0 exactly where both numbers are
or-zero : (a b : ℕ) → eqb (bit_or a b) 0 ≡ both (eqb b 0) (eqb a 0)
or-zero a b = go (ℕ_discrete b 0) (ℕ_discrete a 0)
  where
    go : Dec (b ≡ 0) → Dec (a ≡ 0) → eqb (bit_or a b) 0 ≡ both (eqb b 0) (eqb a 0)
    go (yes p) (yes q) = simp (eq-eqb b 0 p, eq-eqb a 0 q, eq-eqb (bit_or a b) 0 (omega (arith, or_add_and a b)))
    go (yes p) (no q) = simp (eq-eqb b 0 p, ne_eqb a 0 q, ne_eqb (bit_or a b) 0 (λ e. q (omega (arith, or_add_and a b, and_le_l a b, and_le_r a b))))
    go (no p) q = simp (ne_eqb b 0 p, ne_eqb (bit_or a b) 0 (λ e. p (omega (arith, or_add_and a b, and_le_l a b, and_le_r a b))))

-- n numbers, by their bits together
abbrev pub zeros : ℕ → (ℕ → ℕ) → Bool
zeros n g = all_b n (λ k. eqb (g k) 0)

pub or_more : (g : ℕ → ℕ) (bits n : ℕ) → eqb bits 0 ≡ zeros n g → eqb (bit_or bits (g n)) 0 ≡ zeros (n + 1) g
or_more g bits n e = or-zero bits (g n) ∙ ap (both (eqb (g n) 0)) e ∙ ap (λ (k : ℕ). zeros k g) (sym (add-one n))

pub or_end : (g : ℕ → ℕ) {b : Bool} (k n : ℕ) → b ≡ zeros k g → k ≤ n → n ≤ k → b ≡ zeros n g
or_end g k n e l m = e ∙ ap (λ (n : ℕ). zeros n g) (le_antisymm l m)

-- the 63 levels after the first, of which 7 are near and 56 far
after : (g : ℕ → ℕ) → zeros 63 (λ k. g (1 + k)) ≡ both (zeros 56 (λ k. g (8 + k))) (zeros 7 (λ k. g (1 + k)))
after g = all_split 7 56 (λ k. eqb (g (1 + k)) 0) ∙ (λ i. both (all_b 56 (λ k. eqb (g (eight k i)) 0)) (zeros 7 (λ k. g (1 + k))))
  where
    eight : (k : ℕ) → 1 + (7 + k) ≡ 8 + k
    eight k = omega arith

-- all 64
module _ (levels : List ℕ) (at : ℕ) where
  -- the levels from a place on, by the place or by what follows it
  from_on : (from n : ℕ) → zeros n (bytes_from levels (at + from)) ≡ zeros n (λ k. bytes_from levels at (from + k))
  from_on from n i = zeros n (λ k. get_or levels (add_assoc at from k i) 0)

  -- one of the next seven isn't 0
  pub none_near : {near : ℕ} → eqb near 0 ≡ zeros 7 (bytes_from levels (at + 1)) → near ≢ 0 → false ≡ zeros 63 (λ k. bytes_from levels at (1 + k))
  none_near {near} e h =
      sym (after (bytes_from levels at) ∙ second_no (zeros 56 (λ k. bytes_from levels at (8 + k))) _ (sym (e ∙ from_on 1 7) ∙ ne_eqb near 0 h))

  -- they are, and it is the others that decide
  pub none_far : {near : ℕ} {far : Bool} → eqb near 0 ≡ zeros 7 (bytes_from levels (at + 1)) → near ≡ 0 → far ≡ zeros 56 (bytes_from levels (at + 8))
      → far ≡ zeros 63 (λ k. bytes_from levels at (1 + k))
  none_far {near} e h f =
      f ∙ from_on 8 56 ∙ sym (after (bytes_from levels at) ∙ ap (both (zeros 56 (λ k. bytes_from levels at (8 + k)))) (sym (e ∙ from_on 1 7) ∙ eq-eqb near 0 h)
      ∙ both_true (zeros 56 (λ k. bytes_from levels at (8 + k))))

  later : Bool
  later = zeros 63 (λ k. bytes_from levels at (1 + k))

  whole : zeros 64 (bytes_from levels at) ≡ both later (eqb (get_or levels at 0) 0)
  unfolding later
  whole =
      all_split 1 63 (λ k. eqb (bytes_from levels at k) 0)
      ∙ ap (both later) (both_true (eqb (bytes_from levels at 0) 0) ∙ ap (λ (n : ℕ). eqb (get_or levels n 0) 0) (add-zero at))

  pub first_not : get_or levels at 0 ≢ 0 → false ≡ zeros 64 (bytes_from levels at)
  first_not h = sym (whole ∙ second_no later _ (ne_eqb (get_or levels at 0) 0 h))

  pub first_none : {b : Bool} → get_or levels at 0 ≡ 0 → b ≡ zeros 63 (λ k. bytes_from levels at (1 + k)) → b ≡ zeros 64 (bytes_from levels at)
  unfolding later
  first_none h e = e ∙ sym (whole ∙ ap (both later) (eq-eqb (get_or levels at 0) 0 h) ∙ both_true later)
