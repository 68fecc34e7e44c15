-- `inverse::difference` meets its contract: the difference fits 32 bits.
use lib.IntN.{◌-ℤ◌}
use mir.Syntax.{w32}
use mir.Val.{SFits}
use mir.Facts.{to_z-of_z}
use Rattle.laws.proofs.Integer.{low_fits, low_add, low_neg}
use Rattle.inverse.proofs.difference.Goals as goal
use Rattle.inverse.proofs.difference.Goals.{Start}

fits_difference : (c : Start) → SFits w32 (c.args.a -ℤ c.args.b)
fits_difference c = low_fits tt (low_add c.requires.0 (low_neg c.requires.1))

pub overflow_sub-result : goal.overflow_sub-result
overflow_sub-result c = simp (to_z-of_z c.ranges.a, to_z-of_z c.ranges.b) (fits_difference c)

pub returns : goal.returns
returns c = simp (to_z-of_z c.ranges.a, to_z-of_z c.ranges.b, to_z-of_z (fits_difference c))
