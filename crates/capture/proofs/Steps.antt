-- The ends of a step: what a frame's mended word gives. Assumes nothing.
use mathlib.Core.Path.{◌≡◌, refl, sym, ap, ◌∙◌}
use mathlib.Core.Bool.{true, false}
use mathlib.Core.List.{List, ◌∷◌}
use Prim.Native.Nat.{ℕ, zero, suc, ◌+◌}
use borrow.Author.Tests.{eqb-true, eqb-false}
use lib.Dec.{eqb}
use lib.ListN.{drop}
use lib.Seq.{drop_at}
use Rattle.bits.specs.Bits.{Bit, bit0, bit1, bit_of, bit_num, bit_at, bits_from}
use Rattle.bits.specs.Write.{bytes_with}
use Rattle.bits.proofs.Value.{length_bits, bits_split}
use Rattle.bits.proofs.Source.{take_from}
use Rattle.bch.specs.Code.{mended, unmended, corrected}
use Rattle.bch.specs.Frame.{word, Mend}
use Rattle.bch.specs.declared.Mending.TheVariants.{Mended, Unmended as NotMended}
use Rattle.capture.specs.Step.{outcome_at, came_of, out_after}
use Rattle.capture.specs.declared.Came.{Came}
use Rattle.capture.specs.declared.Came.TheVariants.{Data, Fill, Unmended}

word_first : (t : List ℕ) → word t ≡ bit_at t 1 ∷ bits_from t 2 510
unfolding bits_from
word_first t = refl

-- what a step answers and leaves, of the frame at a place
pub record Stepped (capture : List ℕ) (at : ℕ) (out : List ℕ) (to : ℕ) (came : Came) (out' : List ℕ) : Type 0 where
  pub says : came ≡ came_of (outcome_at capture at)
  pub leaves : out' ≡ out_after out to (outcome_at capture at)

-- s are the bits of the capture, and t is what mending made of them
module _ (capture : List ℕ) (at : ℕ) (s t out : List ℕ) (to : ℕ) (g : bits_from s 0 512 ≡ bits_from capture at 512) where
  word_is : word s ≡ bits_from capture (at + 1) 511
  word_is =
      sym (drop_at (bits_from s 0 1) (bits_from s 1 511) 1 (length_bits s 0 1)) ∙ ap (drop 1) (sym (bits_split s 0 1 511) ∙ g ∙ bits_split capture at 1 511)
      ∙ drop_at (bits_from capture at 1) (bits_from capture (at + 1) 511) 1 (length_bits capture at 1)

  pub step_unmended : Mend s NotMended t → Stepped capture at out to Unmended out
  step_unmended m =
      let o : unmended ≡ outcome_at capture at = m.outcome ∙ ap corrected word_is in
      record { says = ap came_of o; leaves = ap (out_after out to) o }

  module _ (m : Mend s Mended t) where
    mended_is : mended (bit_at t 1 ∷ bits_from t 2 510) ≡ outcome_at capture at
    mended_is = ap mended (sym (word_first t)) ∙ m.outcome ∙ ap corrected word_is

    begins : (b : Bit) → bit_at t 1 ≡ b → mended (b ∷ bits_from t 2 510) ≡ outcome_at capture at
    begins b e = ap (λ (b : Bit). mended (b ∷ bits_from t 2 510)) (sym e) ∙ mended_is

    pub step_fill : eqb (bit_num t 1) 0 ≡ true → Stepped capture at out to Fill out
    unfolding bit_at
    step_fill e =
        let o = begins bit0 (ap bit_of (eqb-true (bit_num t 1) 0 e)) in
        record { says = ap came_of o; leaves = ap (out_after out to) o }

    pub step_data : (out' : List ℕ) → eqb (bit_num t 1) 0 ≡ false → out' ≡ bytes_with out to (bits_from t 2 492) → Stepped capture at out to Data out'
    unfolding bit_at
    step_data out' e w =
        let o = begins bit1 (one (bit_num t 1) (eqb-false (bit_num t 1) 0 e)) in
        record { says = ap came_of o; leaves = w ∙ ap (bytes_with out to) (sym (take_from t 2 492 18)) ∙ ap (out_after out to) o }
      where
        one : (n : ℕ) → (n ≡ 0 → ⊥) → bit_of n ≡ bit1
        one zero z = absurd (z refl)
        one (suc n) z = refl
