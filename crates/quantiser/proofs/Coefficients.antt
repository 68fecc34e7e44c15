-- A block's coefficients, from transmission order to their places. Assumes nothing.
use mathlib.Core.Path.{◌≡◌, refl, sym, ap, subst, ◌∙◌}
use mathlib.Core.Logic.{⊎_elim}
use mathlib.Core.Bool.{Bool, true, false}
use mathlib.Core.List.{List, [], ◌∷◌}
use Prim.Native.Nat.{ℕ, ◌+◌, ◌*◌, ◌<◌, ◌≤◌, zero-le}
use native.Mathlib.Decide.{ℕ_discrete}
use native.Mathlib.Omega.{arith}
use borrow.Author.Tests.{eq-eqb, ne_eqb}
use lib.Dec.{T, eqb, ltb}
use lib.IntN.{ℤ, pos}
use lib.ListN.{get_or-eq_default}
use mir.Syntax.{w16, w32}
use mir.Val.{SFits, to_z, of_z}
use mir.Facts.{eqb_yes, ltb_yes}
use Rattle.laws.specs.Choice.{pick, both, either, opposite}
use Rattle.laws.proofs.Choice.{both_left, both_right, either_right}
use Rattle.laws.specs.Table.{all_b}
use Rattle.laws.proofs.Table.{all_at}
use Rattle.laws.specs.Integer.{Low}
use Rattle.laws.proofs.Integer.{low_fits, back}
use Rattle.laws.specs.Rows.{Starts}
use Rattle.laws.proofs.Rows.{lt-or-ge}
use Rattle.laws.specs.Block.{Is, cell, put}
use Rattle.laws.proofs.Block.{put_shape, cell_same, cell_other}
use Rattle.quantiser.specs.Lines.{Line, SmallRow, entry}
use Rattle.quantiser.specs.Level.{position_at, value_at, coefficient_at, coefficient, level_of, direct}
use Rattle.quantiser.proofs.Level.{coefficient_low}

-- a small number goes from 16 bits to 32 as it is
module _ {z : ℤ} (p : Low 2048 z) where
  pub wide_fits : SFits w32 (to_z w16 (of_z w16 z))
  wide_fits = rw (back w16 tt p) (low_fits {w = w32} tt p)

  pub wide : to_z w32 (of_z w32 (to_z w16 (of_z w16 z))) ≡ z
  wide = ap (λ (y : ℤ). to_z w32 (of_z w32 y)) (back w16 tt p) ∙ back w32 tt p

-- Figure 12 counted from 0, as the code has it
abbrev figure : List (List ℕ)
figure =
    (0 ∷ 1 ∷ 5 ∷ 6 ∷ 14 ∷ 15 ∷ 27 ∷ 28 ∷ []) ∷
    (2 ∷ 4 ∷ 7 ∷ 13 ∷ 16 ∷ 26 ∷ 29 ∷ 42 ∷ []) ∷
    (3 ∷ 8 ∷ 12 ∷ 17 ∷ 25 ∷ 30 ∷ 41 ∷ 43 ∷ []) ∷
    (9 ∷ 11 ∷ 18 ∷ 24 ∷ 31 ∷ 40 ∷ 44 ∷ 53 ∷ []) ∷
    (10 ∷ 19 ∷ 23 ∷ 32 ∷ 39 ∷ 45 ∷ 52 ∷ 54 ∷ []) ∷
    (20 ∷ 22 ∷ 33 ∷ 38 ∷ 46 ∷ 51 ∷ 55 ∷ 60 ∷ []) ∷
    (21 ∷ 34 ∷ 37 ∷ 47 ∷ 50 ∷ 56 ∷ 59 ∷ 61 ∷ []) ∷
    (35 ∷ 36 ∷ 48 ∷ 49 ∷ 57 ∷ 58 ∷ 62 ∷ 63 ∷ []) ∷ []

-- at each place: the position that Figure 12 says, one of the 64, and the first one only in the corner
right : ℕ → ℕ → Bool
right i j =
    both (eqb (cell 0 figure i j) (position_at i j)) (both (ltb (position_at i j) 64) (either (opposite (eqb (position_at i j) 0)) (eqb (i * 8 + j) 0)))

module _ (i j : ℕ) (p : i < 8) (q : j < 8) where
  all_right : T (right i j)
  unfolding right position_at
  all_right = all_at 8 (λ j. right i j) (all_at 8 (λ i. all_b 8 (λ j. right i j)) tt i p) j q

  place_is : cell 0 figure i j ≡ position_at i j
  unfolding right
  place_is = eqb_yes (both_left (eqb (cell 0 figure i j) (position_at i j)) _ all_right)

  others : T (both (ltb (position_at i j) 64) (either (opposite (eqb (position_at i j) 0)) (eqb (i * 8 + j) 0)))
  unfolding right
  others = both_right (eqb (cell 0 figure i j) (position_at i j)) _ all_right

  position_most : position_at i j < 64
  position_most = ltb_yes (both_left (ltb (position_at i j) 64) _ others)

  corner : position_at i j ≡ 0 → i * 8 + j ≡ 0
  corner e =
      eqb_yes
      (either_right (opposite (eqb (position_at i j) 0)) (eqb (i * 8 + j) 0) (ap opposite (eq-eqb (position_at i j) 0 e))
      (both_right (ltb (position_at i j) 64) _ others))

at_corner : position_at 0 0 ≡ 0
unfolding position_at
at_corner = refl

-- a row of the block, by the positions that the code names
pub row_placed : (n : List ℤ) (i : ℕ) → i < 8 → {r : List ℤ} → Line (λ j. entry n (cell 0 figure i j)) r → Line (λ j. entry n (position_at i j)) r
row_placed n i p h = record { size = h.size; entries = λ j q. h.entries j q ∙ ap (entry n) (place_is i j p q) }

-- what is coded in transmission order is small, past its end too
pub coded_small : (bytes : ℕ → ℕ) (quantiser : ℕ) {n : List ℤ} → Starts (pos 0) 64 64 (λ k. coefficient quantiser (level_of (bytes k))) n → SmallRow 2048 n
coded_small bytes quantiser {n} h k = ⊎_elim inside beyond (lt-or-ge k 64)
  where
    inside : k < 64 → Low 2048 (entry n k)
    inside l = subst (λ (z : ℤ). Low 2048 z) (sym (h.first k l)) (coefficient_low quantiser (level_of (bytes k)))

    far : {m : ℕ} → m ≡ 64 → 64 ≤ k → m ≤ k
    far e l = omega arith

    beyond : 64 ≤ k → Low 2048 (entry n k)
    beyond l = subst (λ (z : ℤ). Low 2048 z) (sym (get_or-eq_default n (pos 0) (far h.size l))) (record { low = zero-le })

-- the whole block
module _ (bytes : ℕ → ℕ) (quantiser : ℕ) {n : List ℤ} {t : List (List ℤ)} (coded : Starts (pos 0) 64 64 (λ k. coefficient quantiser (level_of (bytes k))) n) (h : Is (pos 0) (λ i j. entry n (position_at i j)) t) where
  -- what stands at each place but for a DC code
  level_at : (i j : ℕ) → i < 8 → j < 8 → cell (pos 0) t i j ≡ value_at bytes false quantiser (position_at i j)
  unfolding value_at
  level_at i j p q = h.cells i j p q ∙ coded.first (position_at i j) (position_most i j p q)

  pub whole_plain : {intra : Bool} → intra ≡ false → Is (pos 0) (coefficient_at bytes intra quantiser) t
  unfolding coefficient_at
  whole_plain e = subst (λ (b : Bool). Is (pos 0) (coefficient_at bytes b quantiser) t) (sym e) (record { shape = h.shape; cells = level_at })

  -- in an INTRA block the first position is the DC code's
  pub whole_intra : {intra : Bool} → intra ≡ true → (a : ℤ) → a ≡ direct (bytes 0) → Is (pos 0) (coefficient_at bytes intra quantiser) (put (pos 0) t 0 0 a)
  unfolding coefficient_at value_at
  whole_intra is a e = subst (λ (b : Bool). Is (pos 0) (coefficient_at bytes b quantiser) (put (pos 0) t 0 0 a)) (sym is) full
    where
      zero_in : 0 < 8
      zero_in = omega arith

      first_row : (i j : ℕ) → i < 8 → j < 8 → position_at i j ≡ 0 → i ≡ 0
      first_row i j p q f = omega (arith, corner i j p q f)

      first_column : (i j : ℕ) → i < 8 → j < 8 → position_at i j ≡ 0 → j ≡ 0
      first_column i j p q f = omega (arith, corner i j p q f)

      first : value_at bytes true quantiser 0 ≡ direct (bytes 0)
      first = refl

      other : (k : ℕ) → (k ≡ 0 → ⊥) → value_at bytes false quantiser k ≡ value_at bytes true quantiser k
      other k n0 = sym (ap (λ (b : Bool). pick b (direct (bytes k)) (coefficient quantiser (level_of (bytes k)))) (ne_eqb k 0 n0))

      apart : (i j : ℕ) → (position_at i j ≡ 0 → ⊥) → i ≡ 0 → j ≡ 0 → ⊥
      apart i j other r c = other ((λ u. position_at (r u) (c u)) ∙ at_corner)

      go : (i j : ℕ) → i < 8 → j < 8 → Dec (position_at i j ≡ 0) → cell (pos 0) (put (pos 0) t 0 0 a) i j ≡ value_at bytes true quantiser (position_at i j)
      go i j p q (yes f) =
          (λ u. cell (pos 0) (put (pos 0) t 0 0 a) (first_row i j p q f u) (first_column i j p q f u))
          ∙ cell_same (pos 0) h.shape zero_in zero_in a ∙ e ∙ sym first ∙ ap (λ (k : ℕ). value_at bytes true quantiser k) (sym f)
      go i j p q (no m) = cell_other (pos 0) h.shape zero_in zero_in a i j (apart i j m) ∙ level_at i j p q ∙ other (position_at i j) m

      full : Is (pos 0) (coefficient_at bytes true quantiser) (put (pos 0) t 0 0 a)
      full =
          record {
            shape = put_shape (pos 0) h.shape zero_in zero_in a;
            cells = λ i j p q. go i j p q (ℕ_discrete (position_at i j) 0);
          }
