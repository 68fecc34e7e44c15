-- Where the six blocks of a macroblock lie: every index of a store belongs to exactly one row and column of one block of one macroblock. Assumes nothing.
use Rattle.std.specs.Prelude.{◌≡◌, ℕ, ◌+◌, ◌*◌, ◌/◌, ◌%◌, ◌-◌, ◌<◌}
use Rattle.h261_groups.specs.declared.Format.{Format}
use Rattle.h261_groups.specs.Format.{row, column, size_of}
use Rattle.size.specs.Size.{store_length}
use Rattle.size.specs.Place.{index, grid_of}
use Rattle.h261_groups.specs.Order.{macroblock_count, row_of, column_of}

-- ---- exactly one
-- row i, column j of block b of macroblock n
abbrev pub place_of : Format → ℕ → ℕ → ℕ → ℕ → ℕ
place_of f n b i j = index (size_of f) (b - 3) (grid_of (b - 3) (row_of f n) (b / 2 % 2) * 8 + i) (grid_of (b - 3) (column_of f n) (b % 2) * 8 + j)

pub record Belongs (f : Format) (k : ℕ) : Type 0 where
  pub n : ℕ
  pub b : ℕ
  pub i : ℕ
  pub j : ℕ
  pub macroblock : n < macroblock_count f
  pub block : b < 6
  pub row : i < 8
  pub column : j < 8
  pub is : k ≡ place_of f n b i j

-- every index of a store belongs to a block of a macroblock
abbrev pub EveryIndex : Type 0
EveryIndex = (f : Format) (k : ℕ) → k < store_length (size_of f) → Belongs f k

-- two places at one index are one: blocks don't overlap
pub record One (n b i j m a k e : ℕ) : Type 0 where
  pub macroblock : n ≡ m
  pub block : b ≡ a
  pub row : i ≡ k
  pub column : j ≡ e

abbrev pub PlaceOnce : Type 0
PlaceOnce = (f : Format) (n b i j m a k e : ℕ) → n < macroblock_count f → b < 6 → i < 8 → j < 8 → m < macroblock_count f → a < 6 → k < 8 → e < 8
    → place_of f n b i j ≡ place_of f m a k e → One n b i j m a k e
