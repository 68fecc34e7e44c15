-- What the inverse transform gives for a block with a number alone at (0, 0): the same everywhere. Assumes nothing.
use Rattle.std.specs.Prelude.{ℤ, pos, negsuc, ◌+ℤ◌}
use Rattle.laws.specs.Floor.{floor_divided}
use Rattle.quantiser.specs.Cut.{cut}

-- that number, rounded and cut
unfoldable pub flat_at : ℤ → ℤ
flat_at z = cut (negsuc 255) (pos 255) (floor_divided (z +ℤ pos 4) 8)
