-- `test_leaves::due::bits` meets its contract: what equals itself is a number, and numbers have bits. Assumes nothing.
use mathlib.Core.Path.{◌≡◌, sym, subst}
use mathlib.Core.Bool.{true, not}
use lib.Dec.{T}
use lib.Ieee.{Float, nan, inf, fin, eq, is_nan}
use Rattle.test_leaves.proofs.due.bits.Goals as goal

is_number : (x : Float) → eq x x ≡ true → T (not (is_nan x))
unfolding eq is_nan
is_number nan e = absurd (subst T (sym e) tt)
is_number (inf s) e = tt
is_number (fin s m k) e = tt

pub float_to_bits-result : goal.float_to_bits-result
float_to_bits-result c = is_number _ c.if-seconds.true
