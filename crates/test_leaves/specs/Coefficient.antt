-- A block's 128 bytes as coefficients. Assumes nothing.
use Rattle.std.specs.Prelude.{List, ℕ, ◌+◌, ◌*◌, ◌-◌, ltb, ℤ, pos, negsuc, neg_ℤ, get_or}
use Rattle.laws.specs.Choice.{pick}
use Rattle.quantiser.specs.Cut.{cut}

-- 16 bits in two's complement, cut to -2048..2047
unfoldable pub coefficient_of : ℕ → ℤ
coefficient_of n = cut (negsuc 2047) (pos 2047) (pick (ltb n 32768) (pos n) (neg_ℤ (pos (65536 - n))))

-- row i, column j
abbrev pub coefficients_of : List ℕ → ℕ → ℕ → ℤ
coefficients_of bytes i j = coefficient_of (256 * get_or bytes (i * 16 + j * 2) 0 + get_or bytes (i * 16 + j * 2 + 1) 0)
