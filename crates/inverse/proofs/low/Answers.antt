-- `inverse::low` meets its contract: what the division leaves is below 8192, so that it fits 16 bits.
use mathlib.Core.Path.{◌≡◌, sym, ap, subst}
use native.Mathlib.Nat.{le_refl}
use lib.Dec.{lit≤}
use lib.IntN.{ℤ, pos, ◌-ℤ◌, ◌*ℤ◌}
use lib.Signed.{shr_z}
use mir.Syntax.{w16, w32}
use mir.Val.{SFits}
use mir.Facts.{to_z-of_z}
use Rattle.laws.specs.Integer.{Low}
use Rattle.laws.proofs.Integer.{low_fits, low_shr, low_mul}
use Rattle.laws.specs.Floor.{floor_divided}
use Rattle.laws.proofs.Floor.{floor_shift, left_low}
use Rattle.inverse.proofs.low.Goals as goal
use Rattle.inverse.proofs.low.Goals.{Start}

abbrev high : (c : Start) → ℤ
high c = shr_z c.args.t 8192

low_high : (c : Start) → Low 5684 (high c)
low_high c = low_shr 8192 5683 c.requires (lit≤ tt)

fits_high : (c : Start) → SFits w32 (high c)
fits_high c = low_fits tt (low_high c)

fits_multiple : (c : Start) → SFits w32 ((high c) *ℤ pos 8192)
fits_multiple c = low_fits tt (low_mul {b = pos 8192} {n = 8192} (low_high c) (record { low = le_refl 8192 }))

left_is : (c : Start) → c.args.t -ℤ floor_divided c.args.t 8192 *ℤ pos 8192 ≡ c.args.t -ℤ (high c) *ℤ pos 8192
left_is c = ap (λ (q : ℤ). c.args.t -ℤ q *ℤ pos 8192) (floor_shift c.args.t 8192)

low_left : (c : Start) → Low 8192 (c.args.t -ℤ (high c) *ℤ pos 8192)
low_left c = subst (λ (z : ℤ). Low 8192 z) (left_is c) (left_low c.args.t 8192 (lit≤ tt))

fits_left : (c : Start) → SFits w32 (c.args.t -ℤ (high c) *ℤ pos 8192)
fits_left c = low_fits tt (low_left c)

narrow_left : (c : Start) → SFits w16 (c.args.t -ℤ (high c) *ℤ pos 8192)
narrow_left c = low_fits tt (low_left c)

pub overflow_mul-result : goal.overflow_mul-result
overflow_mul-result c = simp (to_z-of_z c.ranges.t, to_z-of_z (fits_high c)) (fits_multiple c)

pub overflow_sub-result : goal.overflow_sub-result
overflow_sub-result c = simp (to_z-of_z c.ranges.t, to_z-of_z (fits_high c), to_z-of_z (fits_multiple c)) (fits_left c)

pub overflow_cast-result : goal.overflow_cast-result
overflow_cast-result c =
    simp (to_z-of_z c.ranges.t, to_z-of_z (fits_high c), to_z-of_z (fits_multiple c), to_z-of_z (fits_left c)) (narrow_left c)

pub returns : goal.returns
returns c =
    simp (to_z-of_z c.ranges.t, to_z-of_z (fits_high c), to_z-of_z (fits_multiple c), to_z-of_z (fits_left c), to_z-of_z (narrow_left c)) (sym (left_is c))
