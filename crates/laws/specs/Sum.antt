-- Sums of integers over 0, 1, .. n - 1.
use Rattle.std.specs.Prelude.{ℕ, zero, suc, ℤ, pos, ◌+ℤ◌}

-- g 0 + g 1 + .. + g (n - 1)
unfoldable pub sum_z : ℕ → (ℕ → ℤ) → ℤ
sum_z zero g = pos 0
sum_z (suc n) g = sum_z n g +ℤ g n
