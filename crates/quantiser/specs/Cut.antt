-- A number cut to a range: "cut to -2048..2047", "cut to -256..255", "cut to 0..255". Assumes nothing.
use Rattle.std.specs.Prelude.{ℤ, pos, negsuc}
use Rattle.std.specs.Int.Signed.{lt_z}
use Rattle.laws.specs.Choice.{pick}

unfoldable pub at_least : ℤ → ℤ → ℤ
at_least lowest z = pick (lt_z z lowest) lowest z

unfoldable pub at_most : ℤ → ℤ → ℤ
at_most highest z = pick (lt_z highest z) highest z

unfoldable pub cut : ℤ → ℤ → ℤ → ℤ
cut lowest highest z = at_most highest (at_least lowest z)

-- ---- a number may be cut to 16 bits before it is cut to less
unfoldable pub short : ℤ → ℤ
short z = cut (negsuc 32767) (pos 32767) z
