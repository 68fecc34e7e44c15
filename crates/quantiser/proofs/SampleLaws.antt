-- A sum of prediction and output, cut in 16 bits, is the sample. Assumes nothing.
use mathlib.Core.Path.{◌≡◌, refl, sym, ap, subst, ◌∙◌}
use mathlib.Core.Bool.{Bool, true, false}
use Prim.Native.Nat.{ℕ, ◌≤◌, zero-le}
use native.Mathlib.Nat.{le_trans, le_of_eq}
use borrow.Author.Tests.{ltb-false, le-ltb}
use lib.Dec.{T, ltb, lit≤}
use lib.IntN.{ℤ, pos, negsuc, nat_abs, ◌+ℤ◌}
use lib.Signed.{non_neg}
use Rattle.laws.specs.Choice.{pick}
use Rattle.laws.specs.Integer.{Low}
use Rattle.quantiser.specs.Cut.{at_least, at_most, cut}
use Rattle.quantiser.proofs.CutLaws.{pick-false}
use Rattle.quantiser.specs.Sample.{Sample, sample_of}

pub cut_sample : (z : ℤ) → Sample (cut (pos 0) (pos 255) z)
unfolding cut at_least at_most
cut_sample (pos n) =
    subst (λ (z : ℤ). Sample (at_most (pos 255) z)) (pick-false (pos 0) (pos n) (le-ltb n 0 zero-le)) (go (ltb 255 n) refl)
  where
    go : (b : Bool) → ltb 255 n ≡ b → Sample (pick b (pos 255) (pos n))
    go true e = record { value = 255; is = refl; most = lit≤ tt }
    go false e = record { value = n; is = refl; most = ltb-false 255 n e }
cut_sample (negsuc n) = record { value = 0; is = refl; most = lit≤ tt }

-- what the machine asks of a number that becomes a byte
pub sample_not_negative : {z : ℤ} → Sample z → T (non_neg z)
sample_not_negative s = subst (λ (z : ℤ). T (non_neg z)) (sym s.is) tt

pub sample_size : {z : ℤ} → Sample z → nat_abs z ≤ 255
sample_size s = le_trans (le_of_eq (ap nat_abs s.is)) s.most

pub sample_low : {z : ℤ} → Sample z → Low 255 z
sample_low s = record { low = sample_size s }

-- and is the number itself
pub sample_value : {z : ℤ} → Sample z → z ≡ pos (nat_abs z)
sample_value s = s.is ∙ sym (ap (λ (z : ℤ). pos (nat_abs z)) s.is)

-- A sample is a byte.
pub sample_most : (prediction difference : ℤ) → sample_of prediction difference ≤ 255
unfolding sample_of
sample_most prediction difference = sample_size (cut_sample (prediction +ℤ difference))

pub sample_cut : (prediction difference : ℤ) → cut (pos 0) (pos 255) (prediction +ℤ difference) ≡ pos (sample_of prediction difference)
unfolding sample_of
sample_cut prediction difference = sample_value (cut_sample (prediction +ℤ difference))

-- A byte is a sample.
pub byte_sample : (n : ℕ) → n ≤ 255 → Sample (pos n)
byte_sample n l = record { value = n; is = refl; most = l }
