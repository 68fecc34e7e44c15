-- `h261_filter::edge` meets its contract: the product fits.
use lib.Dec.{lit≤}
use lib.IntN.{pos, ◌*ℤ◌}
use mir.Syntax.{w32}
use mir.Val.{SFits}
use mir.Facts.{to_z-of_z}
use Rattle.laws.proofs.Integer.{low_fits, low_mul}
use Rattle.h261_filter.proofs.edge.Goals as goal
use Rattle.h261_filter.proofs.edge.Goals.{Start}

fits_four : (c : Start) → SFits w32 (pos 4 *ℤ c.args.b)
fits_four c = low_fits tt (low_mul {a = pos 4} {m = 4} (record { low = lit≤ tt }) c.requires)

pub overflow_mul-result : goal.overflow_mul-result
overflow_mul-result c = simp (to_z-of_z c.ranges.b) (fits_four c)

pub returns : goal.returns
returns c = simp (to_z-of_z c.ranges.b, to_z-of_z (fits_four c))
