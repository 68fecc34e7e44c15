-- Two lists compared: as a whole, and a place at a time. Assumes nothing.
use mathlib.Core.Path.{◌≡◌, refl, sym, ap, ◌∙◌}
use mathlib.Core.Bool.{Bool, true, false}
use mathlib.Core.List.{List, [], ◌∷◌}
use Prim.Native.Nat.{ℕ, ◌+◌, ◌<◌, ◌≤◌}
use native.Mathlib.Omega.{arith}
use borrow.Author.Tests.{eq-eqb, ne_eqb}
use lib.Dec.{eqb}
use lib.Pointwise.{pointwise}
use lib.ListN.{length, get_or, drop}
use Rattle.laws.specs.Choice.{both}
use Rattle.laws.proofs.Lists.{alike_on, alike_past}
use Rattle.laws.specs.Lists.{alike}

-- they are equal, element by element, where they are alike
pub equal_alike : (a b : List ℕ) → pointwise eqb a b ≡ alike a b
unfolding alike
equal_alike [] [] = refl
equal_alike [] (y ∷ ys) = refl
equal_alike (x ∷ xs) [] = refl
equal_alike (x ∷ xs) (y ∷ ys) = ap (both (eqb x y)) (equal_alike xs ys)

-- the rests are alike where the lists are
pub record AlikeSoFar (a b : List ℕ) (i : ℕ) : Type 0 where
  pub long : length a ≡ length b
  pub still : alike (drop i a) (drop i b) ≡ alike a b

pub alike-none : (a b : List ℕ) → length a ≡ length b → AlikeSoFar a b 0
alike-none a b e = record { long = e; still = refl }

module _ {a b : List ℕ} {i : ℕ} (s : AlikeSoFar a b i) where
  apart : i < length a → both (eqb (get_or a i 0) (get_or b i 0)) (alike (drop (i + 1) a) (drop (i + 1) b)) ≡ alike a b
  apart l =
      let m : i < length b = omega (arith, s.long) in
      sym (alike_on a b i l m) ∙ s.still

  pub alike_more : i < length a → get_or a i 0 ≡ get_or b i 0 → AlikeSoFar a b (i + 1)
  alike_more l e =
      record {
        long = s.long;
        still = sym (ap (λ (x : Bool). both x (alike (drop (i + 1) a) (drop (i + 1) b))) (eq-eqb (get_or a i 0) (get_or b i 0) e)) ∙ apart l;
      }

  pub other_byte : i < length a → (get_or a i 0 ≡ get_or b i 0 → ⊥) → false ≡ alike a b
  other_byte l n = sym (ap (λ (x : Bool). both x (alike (drop (i + 1) a) (drop (i + 1) b))) (ne_eqb (get_or a i 0) (get_or b i 0) n)) ∙ apart l

  pub alike_all : length a ≤ i → true ≡ alike a b
  alike_all l =
      let m : length b ≤ i = omega (arith, s.long) in
      sym (alike_past a b i l m) ∙ s.still
