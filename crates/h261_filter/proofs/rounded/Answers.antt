-- `h261_filter::rounded` meets its contract: a shift is a division rounded down, and the sum fits.
use mathlib.Core.Path.{sym}
use native.Mathlib.Nat.{le_refl}
use lib.Dec.{lit≤}
use lib.IntN.{pos, ◌+ℤ◌}
use Prim.Native.Nat.{◌+◌}
use lib.Signed.{shr_z}
use mir.Syntax.{w32}
use mir.Val.{SFits}
use mir.Facts.{to_z-of_z}
use Rattle.laws.specs.Integer.{Low}
use Rattle.laws.proofs.Integer.{low_fits, low_add, low_shr}
use Rattle.laws.proofs.Floor.{floor_shift}
use Rattle.h261_filter.specs.Filter.{rounded_sixteenth}
use Rattle.h261_filter.proofs.rounded.Goals as goal
use Rattle.h261_filter.proofs.rounded.Goals.{Start}

low_sum : (c : Start) → Low (4080 + 8) (c.args.sum +ℤ pos 8)
low_sum c = low_add c.requires (record { low = le_refl 8 })

fits_sum : (c : Start) → SFits w32 (c.args.sum +ℤ pos 8)
fits_sum c = low_fits tt (low_sum c)

fits_rounded : (c : Start) → SFits w32 (shr_z (c.args.sum +ℤ pos 8) 16)
fits_rounded c = low_fits tt (low_shr 16 256 (low_sum c) (lit≤ tt))

pub overflow_add-result : goal.overflow_add-result
overflow_add-result c = simp (to_z-of_z c.ranges.sum) (fits_sum c)

pub returns : goal.returns
unfolding rounded_sixteenth
returns c = simp (to_z-of_z c.ranges.sum, to_z-of_z (fits_sum c), to_z-of_z (fits_rounded c)) (sym (floor_shift (c.args.sum +ℤ pos 8) 16))
