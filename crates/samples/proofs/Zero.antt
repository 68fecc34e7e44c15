-- A block whose levels are all zero adds nothing, by the general rule; where only the first may be other than zero, only the first coefficient may. Assumes nothing.
use mathlib.Core.Path.{◌≡◌, refl, sym, ap, subst, ◌∙◌}
use mathlib.Core.Bool.{Bool, true, false}
use mathlib.Core.Logic.{◌≢◌}
use mathlib.Core.List.{List, []}
use Prim.Native.Nat.{ℕ, ◌+◌, ◌-◌, ◌<◌}
use native.Mathlib.Omega.{arith}
use borrow.Author.Tests.{ne_eqb}
use lib.Dec.{ltb, ltb→lt, eqb, eqb→eq}
use lib.IntN.{ℤ, pos}
use lib.ListN.{get_or}
use Rattle.laws.specs.Choice.{both, either}
use Rattle.laws.proofs.Choice.{second_no, either_right, true-T}
use Rattle.laws.specs.Table.{all_b}
use Rattle.laws.proofs.Table.{all_at}
use Rattle.laws.specs.Block.{cell, Is}
use Rattle.laws.specs.Row.{row}
use Rattle.laws.proofs.Row.{get_d_row}
use Rattle.laws.specs.Tabulate.{made}
use Rattle.quantiser.proofs.CutLaws.{pick-false}
use Rattle.quantiser.specs.Level.{level_of, coefficient, value_at, position_at, coefficient_at}
use Rattle.quantiser.proofs.Level.{level_none}
use Rattle.inverse.specs.Inverse.{inverse_at}
use Rattle.inverse.proofs.InverseLaws.{none_inverse}
use Rattle.inverse.specs.Alone.{flat_at}
use Rattle.inverse.proofs.AloneLaws.{alone_inverse}
use Rattle.samples.specs.Content.{difference_of}

-- a place of a block stands at one of its 64 positions
position_less : (i j : ℕ) → i < 8 → j < 8 → position_at i j < 64
unfolding position_at
position_less i j l m =
    ltb→lt (position_at i j) 64 (all_at 8 (λ j. ltb (position_at i j) 64) (all_at 8 (λ i. all_b 8 (λ j. ltb (position_at i j) 64)) tt i l) j m)

-- and at the first only where both its row and its column are
position_later : (i j : ℕ) → i < 8 → j < 8 → 0 < i + j → 0 < position_at i j
unfolding position_at
position_later i j l m p =
    ltb→lt 0 (position_at i j)
    (either_right (eqb (i + j) 0) (ltb 0 (position_at i j)) (ne_eqb (i + j) 0 (λ e. omega arith))
    (all_at 8 (λ j. either (eqb (i + j) 0) (ltb 0 (position_at i j))) (all_at 8 (λ i. all_b 8 (λ j. either (eqb (i + j) 0) (ltb 0 (position_at i j)))) tt i l) j m))

-- a level of 0 gives 0, where it isn't a DC code
value_none : (bytes : ℕ → ℕ) (intra : Bool) (q k : ℕ) → both intra (eqb k 0) ≡ false → bytes k ≡ 0 → value_at bytes intra q k ≡ pos 0
unfolding value_at
value_none bytes intra q k e h = sym (pick-false _ _ e) ∙ ap (λ (b : ℕ). coefficient q (level_of b)) h ∙ level_none q

coefficient-zero : (bytes : ℕ → ℕ) (q v u : ℕ) → ((k : ℕ) → k < 64 → bytes k ≡ 0) → v < 8 → u < 8 → coefficient_at bytes false q v u ≡ pos 0
unfolding coefficient_at
coefficient-zero bytes q v u h lv lu = value_none bytes false q (position_at v u) refl (h (position_at v u) (position_less v u lv lu))

made_at : {A : Type 0} (d : A) (g : ℕ → ℕ → A) (i j : ℕ) → i < 8 → j < 8 → cell d (made g) i j ≡ g i j
unfolding made
made_at d g i j l m = ap (λ r. get_or r j d) (get_d_row 8 (λ i. row 8 (g i)) [] i l) ∙ get_d_row 8 (g i) d j m

pub difference_zero : (bytes : ℕ → ℕ) (q i j : ℕ) → ((k : ℕ) → k < 64 → bytes k ≡ 0) → difference_of bytes false q i j ≡ pos 0
unfolding difference_of
difference_zero bytes q i j h =
    none_inverse (made (coefficient_at bytes false q)) (λ v u l m. made_at (pos 0) (coefficient_at bytes false q) v u l m ∙ coefficient-zero bytes q v u h l m) i j

-- ---- zeros after the first
module _ (bytes : ℕ → ℕ) (intra : Bool) (q : ℕ) where
  later_none : ((k : ℕ) → k < 63 → bytes (1 + k) ≡ 0) → (v u : ℕ) → v < 8 → u < 8 → 0 < v + u → cell (pos 0) (made (coefficient_at bytes intra q)) v u ≡ pos 0
  unfolding coefficient_at
  later_none h v u l m p =
      made_at (pos 0) (coefficient_at bytes intra q) v u l m
      ∙ later (position_at v u) (position_later v u l m p) (position_less v u l m)
    where
      back : {k : ℕ} → 0 < k → 1 + (k - 1) ≡ k
      back p = omega arith

      inside : {k : ℕ} → 0 < k → k < 64 → k - 1 < 63
      inside p l = omega arith

      some : {k : ℕ} → 0 < k → k ≢ 0
      some p e = omega arith

      later : (k : ℕ) → 0 < k → k < 64 → value_at bytes intra q k ≡ pos 0
      later k p l =
          value_none bytes intra q k (second_no intra (eqb k 0) (ne_eqb k 0 (some p)))
          (subst (λ (n : ℕ). bytes n ≡ 0) (back p) (h (k - 1) (inside p l)))

  first_value : {byte : ℕ} → byte ≡ bytes 0 → cell (pos 0) (made (coefficient_at bytes intra q)) 0 0 ≡ value_at (λ _. byte) intra q 0
  unfolding coefficient_at position_at value_at
  first_value e =
      made_at (pos 0) (coefficient_at bytes intra q) 0 0 (omega arith) (omega arith)
      ∙ ap (λ (byte : ℕ). value_at (λ _. byte) intra q 0) (sym e)

  -- then the transform's output is the same everywhere
  pub difference_alone : {byte : ℕ} {z : ℤ} {block : List (List ℤ)} → ((k : ℕ) → k < 63 → bytes (1 + k) ≡ 0) → byte ≡ bytes 0 → z ≡ value_at (λ _. byte) intra q 0 → Is (pos 0) (λ y x. flat_at z) block → Is (pos 0) (inverse_at (made (coefficient_at bytes intra q))) block
  difference_alone none e f h =
      record {
        shape = h.shape;
        cells = λ y x p q. h.cells y x p q
            ∙ sym (alone_inverse (made (coefficient_at bytes intra _)) (later_none none) y x ∙ ap flat_at (first_value e ∙ sym f));
      }

-- what a test of levels says
pub all_zero : (n : ℕ) (bytes : ℕ → ℕ) {b : Bool} → b ≡ all_b n (λ k. eqb (bytes k) 0) → b ≡ true → (k : ℕ) → k < n → bytes k ≡ 0
all_zero n bytes e h k l = eqb→eq (bytes k) 0 (all_at n (λ k. eqb (bytes k) 0) (true-T (all_b n (λ k. eqb (bytes k) 0)) (sym e ∙ h)) k l)
