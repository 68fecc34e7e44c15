-- A number may be cut to 16 bits before it is cut to less. Assumes nothing.
use mathlib.Core.Path.{◌≡◌, refl, sym, ap, ◌∙◌}
use mathlib.Core.Bool.{Bool, true, false}
use Prim.Native.Nat.{ℕ, ◌≤◌, ◌<◌, zero-le, suc-le-suc}
use native.Mathlib.Nat.{le_trans, lt_trans}
use borrow.Author.Tests.{ltb-false, ltb-true, lt-ltb, le-ltb}
use lib.Dec.{ltb, lit≤}
use lib.IntN.{ℤ, pos, negsuc}
use lib.Signed.{mag, lt_z}
use mir.Syntax.{Width}
use mir.Val.{SFits, to_z, of_z}
use mir.Facts.{to_z-of_z}
use Rattle.laws.specs.Choice.{pick}
use Rattle.laws.specs.Integer.{Low}
use Rattle.quantiser.specs.Cut.{at_most, short, cut, at_least}

-- by the test's answer
pub pick_true : {b : Bool} (x y : ℤ) → b ≡ true → x ≡ pick b x y
pick_true x y e = sym (ap (λ (b : Bool). pick b x y) e)

pub pick-false : {b : Bool} (x y : ℤ) → b ≡ false → y ≡ pick b x y
pick-false x y e = sym (ap (λ (b : Bool). pick b x y) e)

-- ---- the same for numbers that are read from their bits, in any width
module _ {w : Width} {a b : ℤ} (f : SFits w a) (g : SFits w b) where
  tested : {t : Bool} → lt_z (to_z w (of_z w a)) (to_z w (of_z w b)) ≡ t → lt_z a b ≡ t
  tested e = sym (λ i. lt_z (to_z-of_z f i) (to_z-of_z g i)) ∙ e

  pub test_true : {x : ℤ} (y : ℤ) → SFits w x → lt_z (to_z w (of_z w a)) (to_z w (of_z w b)) ≡ true → to_z w (of_z w x) ≡ pick (lt_z a b) x y
  test_true {x} y h e = to_z-of_z h ∙ pick_true x y (tested e)

  pub test_false : (x : ℤ) {y : ℤ} → SFits w y → lt_z (to_z w (of_z w a)) (to_z w (of_z w b)) ≡ false → to_z w (of_z w y) ≡ pick (lt_z a b) x y
  test_false x {y} h e = to_z-of_z h ∙ pick-false x y (tested e)

-- the two steps of a cut, r and then s
pub cut_steps : {w : Width} {lowest highest z r s : ℤ} → SFits w lowest → SFits w highest → SFits w z → SFits w r → SFits w s → r ≡ at_least (to_z w (of_z w lowest)) (to_z w (of_z w z)) → s ≡ at_most (to_z w (of_z w highest)) (to_z w (of_z w r)) → to_z w (of_z w s) ≡ cut lowest highest z
unfolding cut
cut_steps l h f g k d e =
    to_z-of_z k ∙ e ∙ (λ i. at_most (to_z-of_z h i) ((to_z-of_z g ∙ d ∙ (λ j. at_least (to_z-of_z l j) (to_z-of_z f j))) i))

-- what is cut to -(a + 1)..b is at most m in size where both ends are
pub cut_low : (a b : ℕ) {m : ℕ} → a < m → b ≤ m → (z : ℤ) → Low m (cut (negsuc a) (pos b) z)
unfolding cut at_least at_most
cut_low a b {m} p q (pos n) = above (ltb b n) refl
  where
    above : (t : Bool) → ltb b n ≡ t → Low m (pick t (pos b) (pos n))
    above true e = record { low = q }
    above false e = record { low = le_trans (ltb-false b n e) q }
cut_low a b {m} p q (negsuc n) = below (ltb a n) refl
  where
    below : (t : Bool) → ltb a n ≡ t → Low m (at_most (pos b) (pick t (negsuc a) (negsuc n)))
    below true e = record { low = p }
    below false e = record { low = le_trans (suc-le-suc (ltb-false a n e)) p }

pub short-mag : (z : ℤ) → mag (short z) ≤ 32767
unfolding short cut at_least at_most
short-mag (pos n) = above (ltb 32767 n) refl
  where
    above : (t : Bool) → ltb 32767 n ≡ t → mag (pick t (pos 32767) (pos n)) ≤ 32767
    above true e = lit≤ tt
    above false e = ltb-false 32767 n e
short-mag (negsuc n) = below (ltb 32767 n) refl
  where
    below : (t : Bool) → ltb 32767 n ≡ t → mag (at_most (pos 32767) (pick t (negsuc 32767) (negsuc n))) ≤ 32767
    below true e = lit≤ tt
    below false e = ltb-false 32767 n e

-- beyond 16 bits a test against less says true, at the bound as where the number was
beyond : {b : ℕ} (n : ℕ) → b < 32767 → ltb 32767 n ≡ true → ltb b n ≡ true
beyond {b} n l e = lt-ltb b n (lt_trans l (ltb-true 32767 n e))

pub short_cut : (a b : ℕ) → a < 32767 → b < 32767 → (z : ℤ) → cut (negsuc a) (pos b) (short z) ≡ cut (negsuc a) (pos b) z
unfolding short cut at_least at_most
short_cut a b p q (pos n) = above (ltb 32767 n) refl
  where
    above : (t : Bool) → ltb 32767 n ≡ t → cut (negsuc a) (pos b) (pick t (pos 32767) (pos n)) ≡ cut (negsuc a) (pos b) (pos n)
    above true e = sym (pick_true (pos b) (pos 32767) (lt-ltb b 32767 q)) ∙ pick_true (pos b) (pos n) (beyond n q e)
    above false e = refl
short_cut a b p q (negsuc n) = below (ltb 32767 n) refl
  where
    below : (t : Bool) → ltb 32767 n ≡ t → cut (negsuc a) (pos b) (at_most (pos 32767) (pick t (negsuc 32767) (negsuc n))) ≡ cut (negsuc a) (pos b) (negsuc n)
    below true e =
        ap (at_most (pos b)) (sym (pick_true (negsuc a) (negsuc 32767) (lt-ltb a 32767 p)) ∙ pick_true (negsuc a) (negsuc n) (beyond n p e))
    below false e = refl

pub short-cut-zero : (b : ℕ) → b < 32767 → (z : ℤ) → cut (pos 0) (pos b) (short z) ≡ cut (pos 0) (pos b) z
unfolding short cut at_least at_most
short-cut-zero b q (pos n) = above (ltb 32767 n) refl
  where
    above : (t : Bool) → ltb 32767 n ≡ t → cut (pos 0) (pos b) (pick t (pos 32767) (pos n)) ≡ cut (pos 0) (pos b) (pos n)
    above true e =
        sym (pick_true (pos b) (pos 32767) (lt-ltb b 32767 q)) ∙ pick_true (pos b) (pos n) (beyond n q e)
        ∙ ap (at_most (pos b)) (pick-false (pos 0) (pos n) (le-ltb n 0 zero-le))
    above false e = refl
short-cut-zero b q (negsuc n) = below (ltb 32767 n)
  where
    below : (t : Bool) → cut (pos 0) (pos b) (at_most (pos 32767) (pick t (negsuc 32767) (negsuc n))) ≡ cut (pos 0) (pos b) (negsuc n)
    below true = refl
    below false = refl
