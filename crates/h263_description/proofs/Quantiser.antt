-- The quantiser that stands is always one, 1 to 31: PQUANT is, and every change of it is cut. Assumes nothing.
use mathlib.Core.Path.{◌≡◌, refl, ap, ◌∙◌}
use mathlib.Core.Bool.{Bool, true, false}
use Prim.Native.Nat.{ℕ, zero, suc, ◌+◌, ◌-◌, ◌≤◌, ◌<◌, min, max}
use native.Mathlib.Omega.{arith}
use borrow.Author.Tests.{lt-ltb, le-ltb, ltb-true, ltb-false}
use lib.Dec.{T, leb, ltb, le→leb}
use lib.IntN.{ℤ, pos, negsuc, neg_ℤ, nat_abs, ◌+ℤ◌}
use Rattle.laws.specs.Choice.{pick}
use Rattle.laws.proofs.Choice.{both_make}
use Rattle.laws.proofs.Integer.{sub_below, sub_above}
use Rattle.quantiser.specs.Cut.{at_least, at_most, cut}
use Rattle.size.specs.declared.Size.{Size}
use Rattle.layout.specs.Flat.{Flat, number_of}
use Rattle.layout.specs.Fields.{quant_of}
use Rattle.layout.specs.Numbers.{is_quantiser}
use Rattle.h263_description.specs.Fields.{quantiser_cut, quantiser_changed, quantiser_started, quantiser_before}
use Rattle.h263_description.specs.Valid.{valid}
use Rattle.h263_description.proofs.Parts.{valid_lists}

-- "the sum is cut to 1..31": a number that isn't negative, and one that is
cut-pos : (n : ℕ) → quantiser_cut (pos n) ≡ min (max n 1) 31
unfolding quantiser_cut cut at_least at_most
cut-pos n = low (ltb n 1) refl
  where
    high : (m : ℕ) (b : Bool) → ltb 31 m ≡ b → nat_abs (pick b (pos 31) (pos m)) ≡ min m 31
    high m true e = omega (arith, ltb-true 31 m e)
    high m false e = omega (arith, ltb-false 31 m e)

    low : (b : Bool) → ltb n 1 ≡ b → nat_abs (at_most (pos 31) (pick b (pos 1) (pos n))) ≡ min (max n 1) 31
    low true e = high 1 (ltb 31 1) refl ∙ same (ltb-true n 1 e)
      where
        same : n < 1 → min 1 31 ≡ min (max n 1) 31
        same l = omega arith
    low false e = high n (ltb 31 n) refl ∙ same (ltb-false n 1 e)
      where
        same : 1 ≤ n → min n 31 ≡ min (max n 1) 31
        same l = omega arith

cut-negsuc : (n : ℕ) → quantiser_cut (negsuc n) ≡ 1
unfolding quantiser_cut cut at_least at_most
cut-negsuc n = refl

quantiser : (n : ℕ) → 1 ≤ n → n ≤ 31 → T (is_quantiser n)
quantiser n l h = both_make (leb 1 n) (leb n 31) (le→leb 1 n l) (le→leb n 31 h)

pub cut-quantiser : (z : ℤ) → T (is_quantiser (quantiser_cut z))
cut-quantiser (pos n) = rw (cut-pos n) (quantiser (min (max n 1) 31) (omega arith) (omega arith))
cut-quantiser (negsuc n) = rw (cut-negsuc n) tt

pub changed_quantiser : (q dquant : ℕ) → T (is_quantiser (quantiser_changed q dquant))
unfolding quantiser_changed
changed_quantiser q dquant = cut-quantiser (pos q +ℤ number_of dquant)

-- ---- a change, by the DQUANT's sign
pub changed_up : (q dquant : ℕ) → dquant < 128 → quantiser_changed q dquant ≡ min (max (q + dquant) 1) 31
unfolding quantiser_changed
changed_up q dquant l =
    let same : number_of dquant ≡ pos dquant = rw (lt-ltb dquant 128 l) in
    ap (λ (z : ℤ). quantiser_cut (pos q +ℤ z)) same ∙ cut-pos (q + dquant)

pub changed_down : (q dquant : ℕ) → 128 ≤ dquant → dquant < 256 → quantiser_changed q dquant ≡ min (max (q + dquant - 256) 1) 31
unfolding quantiser_changed
changed_down q dquant l h =
    let same : number_of dquant ≡ negsuc (256 - suc dquant) = rw (le-ltb dquant 128 l) in
    ap (λ (z : ℤ). quantiser_cut (pos q +ℤ z)) same ∙ go (ltb q (suc (256 - suc dquant))) refl
  where
    go : (b : Bool) → ltb q (suc (256 - suc dquant)) ≡ b → quantiser_cut (pos q +ℤ negsuc (256 - suc dquant)) ≡ min (max (q + dquant - 256) 1) 31
    go true e =
        let less = ltb-true q (suc (256 - suc dquant)) e in
        let some : suc (256 - suc dquant) - q ≡ suc (256 - suc dquant - q) = omega arith in
        let one : 1 ≡ min (max (q + dquant - 256) 1) 31 = omega arith in
        ap quantiser_cut (sub_above q (suc (256 - suc dquant)) less ∙ ap (λ (n : ℕ). neg_ℤ (pos n)) some) ∙ cut-negsuc (256 - suc dquant - q) ∙ one
    go false e =
        let more = ltb-false q (suc (256 - suc dquant)) e in
        let rest : q - suc (256 - suc dquant) ≡ q + dquant - 256 = omega arith in
        ap quantiser_cut (sub_below q (suc (256 - suc dquant)) more ∙ ap pos rest) ∙ cut-pos (q + dquant - 256)

-- ---- what stands
module _ (size : Size) (d : Flat) (t : T (valid size d)) where
  pub quantiser_before_lem : (across n : ℕ) → T (is_quantiser (quantiser_before across d n))
  unfolding quantiser_before
  quantiser_before_lem across zero = (valid_lists size d t).pquant
  quantiser_before_lem across (suc n) = changed_quantiser (quantiser_started across d n (quantiser_before across d n)) (quant_of d n)
