-- Division of an integer by a positive number, rounded down, and its laws. Assumes nothing.
use Rattle.std.specs.Prelude.{ℕ, ◌/◌, ℤ, pos, negsuc}

-- z / m, rounded down
unfoldable pub floor_divided : ℤ → ℕ → ℤ
floor_divided (pos a) m = pos (a / m)
floor_divided (negsuc a) m = negsuc (a / m)
