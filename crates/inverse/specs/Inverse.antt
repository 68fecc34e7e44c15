-- The inverse transform, by its definition: a double sum over the block, a rounded division and a cut. Assumes nothing.
use Rattle.std.specs.Prelude.{List, [], ◌∷◌, ℕ, ◌+◌, ◌*◌, ◌-◌, ◌%◌, ltb, ℤ, pos, negsuc, neg_ℤ, ◌+ℤ◌, ◌*ℤ◌, get_or}
use Rattle.laws.specs.Choice.{pick}
use Rattle.laws.specs.Floor.{floor_divided}
use Rattle.laws.specs.Block.{cell}
use Rattle.laws.specs.Sum.{sum_z}
use Rattle.quantiser.specs.Cut.{cut}

-- F(u, v): the number at row v, column u.
abbrev pub F : List (List ℤ) → ℕ → ℕ → ℤ
F block u v = cell (pos 0) block v u

-- "row 0 is all 2048, and magnitudes for multiples 1 to 7 of π/16 are 2841, 2676, 2408, 2048, 1609, 1108, 565"
abbrev pub magnitudes : List ℕ
magnitudes = 2048 ∷ 2841 ∷ 2676 ∷ 2408 ∷ 2048 ∷ 1609 ∷ 1108 ∷ 565 ∷ []

-- "with the cosine's sign": by the quarter of the circle that k π/16 lies in, k below 32.
unfoldable pub cosine : ℕ → ℤ
cosine k =
    pick (ltb k 8) (pos (get_or magnitudes k 0))
    (pick (ltb k 16) (neg_ℤ (pos (get_or magnitudes (16 - k) 0)))
    (pick (ltb k 24) (neg_ℤ (pos (get_or magnitudes (k - 16) 0)))
    (pos (get_or magnitudes (32 - k) 0))))

-- "Table A[u][x] is 2048·√2·C(u)·cos((2x+1)uπ/16) rounded"
unfoldable pub A : ℕ → ℕ → ℤ
A u x = cosine ((2 * x + 1) * u % 32)

-- "S is the exact whole sum of F(u,v)·A[u][x]·A[v][y]."
unfoldable pub S : List (List ℤ) → ℕ → ℕ → ℤ
S block x y = sum_z 8 (λ v. sum_z 8 (λ u. F block u v *ℤ A u x *ℤ A v y))

-- "The output is S + 2^24 divided by 2^25, rounded down, cut to -256..255."
unfoldable pub output : ℤ → ℤ
output s = cut (negsuc 255) (pos 255) (floor_divided (s +ℤ pos 16777216) 33554432)

-- row y, column x of the result
unfoldable pub inverse_at : List (List ℤ) → ℕ → ℕ → ℤ
inverse_at block y x = output (S block x y)
