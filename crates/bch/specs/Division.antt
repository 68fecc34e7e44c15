-- Division of polynomials over two elements, as a shift register does it. A remainder is the number whose bit n is the coefficient of x ^ n.
-- Assumes nothing.
use Rattle.std.specs.Prelude.{List, [], ◌∷◌, ℕ, zero, suc, ◌*◌, ◌/◌, ◌%◌, ◌^◌}
use Rattle.laws.specs.Xor.{◌⊕◌}
use Rattle.bits.specs.Bits.{Bit, num}

-- x ^ (top + 1) + rest, with rest of degree top at most
pub record Divisor : Type 0 where
  pub top : ℕ
  pub rest : ℕ

-- x times r: the coefficient of x ^ top goes up to x ^ (top + 1), which leaves the remainder rest
unfoldable pub up : Divisor → ℕ → ℕ
up d r = (r % 2 ^ d.top * 2) ⊕ (r / 2 ^ d.top % 2 * d.rest)

-- the remainder once bits follow those that left r
unfoldable pub fed : Divisor → List Bit → ℕ → ℕ
fed d [] r = r
fed d (b ∷ bs) r = fed d bs (up d r ⊕ num b)

-- x ^ n times r
unfoldable pub raised : Divisor → ℕ → ℕ → ℕ
raised d zero r = r
raised d (suc n) r = raised d n (up d r)
