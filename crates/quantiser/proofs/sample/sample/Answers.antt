-- `quantiser::sample::sample` meets its contract: the sum is small, and cut to 16 bits it is cut to a sample as it was before.
use mathlib.Core.Path.{◌≡◌, ◌∙◌, ap}
use lib.Dec.{lit≤}
use lib.IntN.{ℤ, pos, ◌+ℤ◌}
use mir.Syntax.{w16, w32}
use mir.Val.{SFits, to_z, of_z}
use mir.Facts.{to_z-of_z}
use borrow.Author.Rules.{rules}
use Rattle.laws.proofs.Integer.{low_fits, low_add}
use Rattle.quantiser.specs.Cut.{cut, short}
use Rattle.quantiser.proofs.CutLaws.{short-cut-zero}
use Rattle.quantiser.proofs.SampleLaws.{sample_cut, sample_low}
use Rattle.quantiser.proofs.sample.sample.Goals as goal
use Rattle.quantiser.proofs.sample.sample.Goals.{After-short, Start}

abbrev sum : (s : Start) → ℤ
sum s = s.args.prediction +ℤ s.args.difference

sum_is : (s : Start) → to_z w32 (of_z w32 s.args.prediction) +ℤ to_z w32 (of_z w32 s.args.difference) ≡ (sum s)
sum_is s = λ i. to_z-of_z s.ranges.prediction i +ℤ to_z-of_z s.ranges.difference i

fits_sum : (s : Start) → SFits w32 (sum s)
fits_sum s = low_fits tt (low_add (sample_low s.requires.0) s.requires.1)

abbrev sum-at2 : (s : After-short) → ℤ
sum-at2 s = s.args.prediction +ℤ s.args.difference

sum_is-at2 : (s : After-short) → to_z w32 (of_z w32 s.args.prediction) +ℤ to_z w32 (of_z w32 s.args.difference) ≡ (sum-at2 s)
sum_is-at2 s = λ i. to_z-of_z s.ranges.prediction i +ℤ to_z-of_z s.ranges.difference i

fits_sum-at2 : (s : After-short) → SFits w32 (sum-at2 s)
fits_sum-at2 s = low_fits tt (low_add (sample_low s.requires.0) s.requires.1)

short_is : (c : After-short) → to_z w16 (of_z w16 c.short.result) ≡ short (sum-at2 c)
short_is c =
    let h : to_z w16 (of_z w16 c.short.result) ≡ c.short.result = search rules in
    h ∙ c.short.ensures ∙ ap short (ap (λ (z : ℤ). to_z w32 (of_z w32 z)) (sum_is-at2 c) ∙ to_z-of_z (fits_sum-at2 c))

pub overflow_add-prediction : goal.overflow_add-prediction
overflow_add-prediction c = rw (sum_is c) (fits_sum c)

pub returns : goal.returns
returns c =
    let h : to_z w16 (of_z w16 c.cut16.result) ≡ c.cut16.result = search rules in
    h ∙ c.cut16.ensures
    ∙ ap (λ (z : ℤ). cut (pos 0) (pos 255) z) (short_is (goal.at.returns c).After-short) ∙ short-cut-zero 255 (lit≤ tt) (sum (goal.at.returns c).Start)
    ∙ sample_cut c.args.prediction c.args.difference
