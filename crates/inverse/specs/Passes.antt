-- What the quick way of the inverse transform computes on its way: sums along a line of eight, by pairs of products. Assumes nothing.
use Rattle.std.specs.Prelude.{List, [], ℕ, zero, suc, ◌<◌, ℤ, pos, negsuc, ◌+ℤ◌, ◌*ℤ◌, get_or}
use Rattle.laws.specs.Integer.{Low}
use Rattle.laws.specs.Floor.{floor_divided}
use Rattle.laws.specs.Block.{cell}
use Rattle.laws.specs.Sum.{sum_z}
use Rattle.laws.specs.Linear.{Lin, term, plus}
use Rattle.quantiser.specs.Cut.{cut}
use Rattle.quantiser.specs.Lines.{entry}
use Rattle.inverse.specs.Inverse.{A, output}

-- a line's sum at x
unfoldable pub along : List ℤ → ℕ → ℤ
along row x = sum_z 8 (λ u. entry row u *ℤ A u x)

-- two numbers of a line by their factors
abbrev pub pair_of : ℕ → ℤ → ℕ → ℤ → Lin
pair_of i k j l = plus (term i k) (term j l)

-- two places of a line, and factors no larger than the table's
pub record Factors (i : ℕ) (k : ℤ) (j : ℕ) (l : ℤ) : Type 0 where
  pub first : i < 8
  pub first_low : Low 2841 k
  pub second : j < 8
  pub second_low : Low 2841 l

-- what the even places give of a line's sum, by two pairs, and two pairs of the odd ones: each small
pub record Half (even more less : ℤ) : Type 0 where
  pub evens : Low 186187776 even
  pub added : Low 93093888 more
  pub taken : Low 93093888 less

-- what the rows give
abbrev pub rows_at : List (List ℤ) → ℕ → ℕ → ℤ
rows_at f v x = along (get_or f v []) x

-- a column's numbers, the first with the rounding term
abbrev pub down_at : List (List ℤ) → ℕ → ℕ → ℤ
down_at t x zero = cell (pos 0) t 0 x +ℤ pos 8192
down_at t x (suc v) = cell (pos 0) t (suc v) x

-- the output, from the sums of a column's two parts
unfoldable pub finished : ℤ → ℤ → ℤ
finished h l = cut (negsuc 255) (pos 255) (floor_divided (h +ℤ floor_divided l 8192) 4096)

-- what the columns give
abbrev pub columns_at : List (List ℤ) → ℕ → ℕ → ℤ
columns_at t y x = output (sum_z 8 (λ v. cell (pos 0) t v x *ℤ A v y))
