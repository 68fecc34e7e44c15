-- `inverse::high` meets its contract: a shift is a division rounded down, and the quotient fits 16 bits.
use mathlib.Core.Path.{sym}
use lib.Dec.{lit≤}
use lib.Signed.{shr_z}
use mir.Syntax.{w16, w32}
use mir.Val.{SFits}
use mir.Facts.{to_z-of_z}
use Rattle.laws.specs.Integer.{Low}
use Rattle.laws.proofs.Integer.{low_fits, low_shr}
use Rattle.laws.proofs.Floor.{floor_shift}
use Rattle.inverse.proofs.high.Goals as goal
use Rattle.inverse.proofs.high.Goals.{Start}

low_high : (c : Start) → Low 5684 (shr_z c.args.t 8192)
low_high c = low_shr 8192 5683 c.requires (lit≤ tt)

fits_high : (c : Start) → SFits w32 (shr_z c.args.t 8192)
fits_high c = low_fits tt (low_high c)

narrow_high : (c : Start) → SFits w16 (shr_z c.args.t 8192)
narrow_high c = low_fits tt (low_high c)

pub overflow_cast-result : goal.overflow_cast-result
overflow_cast-result c = simp (to_z-of_z c.ranges.t, to_z-of_z (fits_high c)) (narrow_high c)

pub returns : goal.returns
returns c = simp (to_z-of_z c.ranges.t, to_z-of_z (fits_high c), to_z-of_z (narrow_high c)) (sym (floor_shift c.args.t 8192))
