-- `inverse::joined` meets its contract: both sums fit 32 bits.
use lib.IntN.{◌+ℤ◌, ◌-ℤ◌}
use mir.Syntax.{w32}
use mir.Val.{SFits}
use mir.Facts.{to_z-of_z}
use Rattle.laws.specs.Integer.{Low}
use Rattle.laws.proofs.Integer.{low_fits, low_add, low_neg}
use Rattle.inverse.proofs.joined.Goals as goal
use Rattle.inverse.proofs.joined.Goals.{Start}

low_first : (c : Start) → Low 279281664 (c.args.even +ℤ c.args.more)
low_first c = low_add c.requires.evens c.requires.added

fits_first : (c : Start) → SFits w32 (c.args.even +ℤ c.args.more)
fits_first c = low_fits tt (low_first c)

fits_second : (c : Start) → SFits w32 (c.args.even +ℤ c.args.more -ℤ c.args.less)
fits_second c = low_fits tt (low_add (low_first c) (low_neg c.requires.taken))

pub overflow_add-result : goal.overflow_add-result
overflow_add-result c = simp (to_z-of_z c.ranges.even, to_z-of_z c.ranges.more) (fits_first c)

pub overflow_sub-result : goal.overflow_sub-result
overflow_sub-result c = simp (to_z-of_z c.ranges.even, to_z-of_z c.ranges.more, to_z-of_z (fits_first c), to_z-of_z c.ranges.less) (fits_second c)

pub returns : goal.returns
returns c = simp (to_z-of_z c.ranges.even, to_z-of_z c.ranges.more, to_z-of_z (fits_first c), to_z-of_z c.ranges.less, to_z-of_z (fits_second c))
