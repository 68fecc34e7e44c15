-- A count of bits below 2^64 can be counted on; a bit is a field of one. Assumes nothing.
use Prim.Native.Nat.{ℕ, ◌+◌, ◌<◌}
use borrow.Author.Tests.{lt-ltb}
use mathlib.Core.Path.{◌≡◌, refl, sym, ap}
use mathlib.Core.Bool.{Bool, true, false}
use mathlib.Core.List.{[], ◌∷◌}
use Rattle.laws.specs.Choice.{pick}
use Rattle.bits.specs.Bits.{bits_of}
use Rattle.stream.specs.Stream.{bit_number, one_more}
use Rattle.stream.specs.Pictures.{as_bit}

pub more_below : (n : ℕ) → n < 18446744073709551615 → n + 1 ≡ one_more n
more_below n l = sym (ap (λ (t : Bool). pick t (n + 1) n) (lt-ltb n 18446744073709551615 l))

pub one_bit : (b : Bool) → bits_of 1 (bit_number b) ≡ as_bit b ∷ []
one_bit true = refl
one_bit false = refl
