-- `inverse::narrow` meets its contract: a small number is the same in 16 bits.
use mir.Facts.{to_z-of_z}
use mir.Syntax.{w16}
use Rattle.laws.proofs.Integer.{low_fits, back}
use Rattle.inverse.proofs.narrow.Goals as goal

pub overflow_cast-result : goal.overflow_cast-result
overflow_cast-result c = simp (to_z-of_z c.ranges.z) (low_fits tt c.requires)

pub returns : goal.returns
returns c = simp (to_z-of_z c.ranges.z) (back w16 tt c.requires)
