-- What `test_leaves blocks` reads are coefficients. Assumes nothing.
use mathlib.Core.Path.{◌≡◌, ap}
use mathlib.Core.List.{List}
use Prim.Native.Nat.{ℕ, ◌-◌, ◌<◌, ◌≤◌, zero-le}
use borrow.Author.Tests.{lt-ltb, le-ltb}
use lib.Dec.{lit≤}
use lib.IntN.{ℤ, pos, negsuc, neg_ℤ}
use Rattle.laws.specs.Integer.{Low}
use Rattle.laws.specs.Block.{Is}
use Rattle.laws.proofs.Block.{is_each}
use Rattle.quantiser.specs.Cut.{cut}
use Rattle.quantiser.proofs.CutLaws.{cut_low, pick_true, pick-false}
use Rattle.quantiser.specs.Lines.{Small}
use Rattle.test_leaves.specs.Coefficient.{coefficient_of}

pub coefficient_positive : (n : ℕ) → n < 32768 → cut (negsuc 2047) (pos 2047) (pos n) ≡ coefficient_of n
unfolding coefficient_of
coefficient_positive n l = ap (λ (z : ℤ). cut (negsuc 2047) (pos 2047) z) (pick_true (pos n) (neg_ℤ (pos (65536 - n))) (lt-ltb n 32768 l))

pub coefficient_negative : (n : ℕ) → 32768 ≤ n → cut (negsuc 2047) (pos 2047) (neg_ℤ (pos (65536 - n))) ≡ coefficient_of n
unfolding coefficient_of
coefficient_negative n l = ap (λ (z : ℤ). cut (negsuc 2047) (pos 2047) z) (pick-false (pos n) (neg_ℤ (pos (65536 - n))) (le-ltb n 32768 l))

pub coefficient_low : (n : ℕ) → Low 2048 (coefficient_of n)
unfolding coefficient_of
coefficient_low n = cut_low 2047 2047 (lit≤ tt) (lit≤ tt) _

pub coefficients_small : (g : ℕ → ℕ → ℕ) {block : List (List ℤ)} → Is (pos 0) (λ i j. coefficient_of (g i j)) block → Small 2048 block
coefficients_small g h = is_each (λ (z : ℤ). Low 2048 z) h (record { low = zero-le }) (λ i j. coefficient_low (g i j))
