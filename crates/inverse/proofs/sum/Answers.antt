-- `inverse::sum` meets its contract: the sum fits 32 bits.
use lib.IntN.{◌+ℤ◌}
use mir.Syntax.{w32}
use mir.Val.{SFits}
use mir.Facts.{to_z-of_z}
use Rattle.laws.proofs.Integer.{low_fits, low_add}
use Rattle.inverse.proofs.sum.Goals as goal
use Rattle.inverse.proofs.sum.Goals.{Start}

fits_sum : (c : Start) → SFits w32 (c.args.a +ℤ c.args.b)
fits_sum c = low_fits tt (low_add c.requires.0 c.requires.1)

pub overflow_add-result : goal.overflow_add-result
overflow_add-result c = simp (to_z-of_z c.ranges.a, to_z-of_z c.ranges.b) (fits_sum c)

pub returns : goal.returns
returns c = simp (to_z-of_z c.ranges.a, to_z-of_z c.ranges.b, to_z-of_z (fits_sum c))
