-- `h261_filter::inside` meets its contract: each sum on the way fits.
use lib.Dec.{lit≤}
use lib.IntN.{pos, ◌+ℤ◌, ◌*ℤ◌}
use mir.Syntax.{w32}
use mir.Val.{SFits}
use mir.Facts.{to_z-of_z}
use Rattle.laws.specs.Integer.{Low}
use Rattle.laws.proofs.Integer.{low_fits, low_mul, low_add}
use Rattle.h261_filter.proofs.inside.Goals as goal
use Rattle.h261_filter.proofs.inside.Goals.{Start}

low_twice : (c : Start) → Low 2040 (pos 2 *ℤ c.args.b)
low_twice c = low_mul {a = pos 2} {m = 2} (record { low = lit≤ tt }) c.requires.here

fits_twice : (c : Start) → SFits w32 (pos 2 *ℤ c.args.b)
fits_twice c = low_fits tt (low_twice c)

fits_two : (c : Start) → SFits w32 (c.args.a +ℤ pos 2 *ℤ c.args.b)
fits_two c = low_fits tt (low_add c.requires.before (low_twice c))

fits_three : (c : Start) → SFits w32 (c.args.a +ℤ pos 2 *ℤ c.args.b +ℤ c.args.c)
fits_three c = low_fits tt (low_add (low_add c.requires.before (low_twice c)) c.requires.after)

pub overflow_mul-result : goal.overflow_mul-result
overflow_mul-result c = simp (to_z-of_z c.ranges.b) (fits_twice c)

pub overflow_add-result : goal.overflow_add-result
overflow_add-result c = simp (to_z-of_z c.ranges.b, to_z-of_z (fits_twice c), to_z-of_z c.ranges.a) (fits_two c)

pub overflow_add-result-2 : goal.overflow_add-result-2
overflow_add-result-2 c =
    simp (to_z-of_z c.ranges.b, to_z-of_z (fits_twice c), to_z-of_z c.ranges.a, to_z-of_z (fits_two c), to_z-of_z c.ranges.c) (fits_three c)

pub returns : goal.returns
returns c =
    simp (to_z-of_z c.ranges.b, to_z-of_z (fits_twice c), to_z-of_z c.ranges.a, to_z-of_z (fits_two c), to_z-of_z c.ranges.c, to_z-of_z (fits_three c))
