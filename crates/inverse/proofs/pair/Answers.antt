-- `inverse::pair` meets its contract: the numbers, the products and their sum fit 32 bits.
use mathlib.Core.Path.{◌≡◌}
use lib.IntN.{ℤ, ◌+ℤ◌, ◌*ℤ◌}
use mir.Syntax.{w16, w32}
use mir.Val.{SFits, to_z, of_z}
use mir.Facts.{to_z-of_z}
use Rattle.laws.specs.Integer.{Low}
use Rattle.laws.proofs.Integer.{low_fits, low_mul, low_add, back}
use Rattle.quantiser.specs.Lines.{entry}
use Rattle.inverse.proofs.pair.Goals as goal
use Rattle.inverse.proofs.pair.Goals.{Start}

abbrev a : (s : Start) → ℤ
a s = entry s.args.f s.args.i

a_is : (s : Start) → to_z w16 (of_z w16 (a s)) ≡ (a s)
a_is s = back w16 tt (s.requires.0 s.args.i)

wide_a : (s : Start) → SFits w32 (a s)
wide_a s = low_fits tt (s.requires.0 s.args.i)

low_a : (s : Start) → Low 46546944 ((a s) *ℤ s.args.k)
low_a s = low_mul (s.requires.0 s.args.i) s.requires.1.first_low

fits_a : (s : Start) → SFits w32 ((a s) *ℤ s.args.k)
fits_a s = low_fits tt (low_a s)

abbrev b : (s : Start) → ℤ
b s = entry s.args.f s.args.j

b_is : (s : Start) → to_z w16 (of_z w16 (b s)) ≡ (b s)
b_is s = back w16 tt (s.requires.0 s.args.j)

wide_b : (s : Start) → SFits w32 (b s)
wide_b s = low_fits tt (s.requires.0 s.args.j)

low_b : (s : Start) → Low 46546944 ((b s) *ℤ s.args.l)
low_b s = low_mul (s.requires.0 s.args.j) s.requires.1.second_low

fits_b : (s : Start) → SFits w32 ((b s) *ℤ s.args.l)
fits_b s = low_fits tt (low_b s)

fits_sum : (s : Start) → SFits w32 ((a s) *ℤ s.args.k +ℤ (b s) *ℤ s.args.l)
fits_sum s = low_fits tt (low_add (low_a s) (low_b s))

pub overflow_cast-result : goal.overflow_cast-result
overflow_cast-result c =
    let at-start = (goal.at.overflow_cast-result c).Start in
    simp (a_is at-start) (wide_a at-start)

pub overflow_mul-result : goal.overflow_mul-result
overflow_mul-result c =
    let at-start = (goal.at.overflow_mul-result c).Start in
    simp (a_is at-start, to_z-of_z (wide_a at-start), to_z-of_z c.ranges.k) (fits_a at-start)

pub overflow_cast-result-2 : goal.overflow_cast-result-2
overflow_cast-result-2 c =
    let at-start = (goal.at.overflow_cast-result-2 c).Start in
    simp (b_is at-start) (wide_b at-start)

pub overflow_mul-result-2 : goal.overflow_mul-result-2
overflow_mul-result-2 c =
    let at-start = (goal.at.overflow_mul-result-2 c).Start in
    simp (b_is at-start, to_z-of_z (wide_b at-start), to_z-of_z c.ranges.l) (fits_b at-start)

pub overflow_add-result : goal.overflow_add-result
overflow_add-result c =
    let at-start = (goal.at.overflow_add-result c).Start in
    simp (a_is at-start, to_z-of_z (wide_a at-start), to_z-of_z c.ranges.k, to_z-of_z (fits_a at-start), b_is at-start, to_z-of_z (wide_b at-start), to_z-of_z c.ranges.l, to_z-of_z (fits_b at-start)) (fits_sum at-start)

pub returns : goal.returns
returns c =
    let at-start = (goal.at.returns c).Start in
    simp (a_is at-start, to_z-of_z (wide_a at-start), to_z-of_z c.ranges.k, to_z-of_z (fits_a at-start), b_is at-start, to_z-of_z (wide_b at-start), to_z-of_z c.ranges.l, to_z-of_z (fits_b at-start), to_z-of_z (fits_sum at-start))
