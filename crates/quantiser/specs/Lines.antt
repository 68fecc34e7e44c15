-- Lines of eight numbers, blocks whose numbers are small, and blocks that are filled line by line. Assumes nothing.
use Rattle.std.specs.Prelude.{◌≡◌, List, ℕ, ◌<◌, ℤ, pos, length, get_or}
use Rattle.laws.specs.Integer.{Low}
use Rattle.laws.specs.Block.{cell}

abbrev pub entry : List ℤ → ℕ → ℤ
entry row i = get_or row i (pos 0)

-- r is the line of eight whose entries are what g says
pub record Line (g : ℕ → ℤ) (r : List ℤ) : Type 0 where
  pub size : length r ≡ 8
  pub entries : (x : ℕ) → x < 8 → entry r x ≡ g x

-- Each number of a row, and of a block, is at most m in size.
abbrev pub SmallRow : ℕ → List ℤ → Type 0
SmallRow m row = (i : ℕ) → Low m (get_or row i (pos 0))

abbrev pub Small : ℕ → List (List ℤ) → Type 0
Small m block = (i j : ℕ) → Low m (cell (pos 0) block i j)

-- eight places of 64 small numbers
pub record EightPlaces (n : List ℤ) (a b c d e f g h : ℕ) : Type 0 where
  pub numbers : SmallRow 2048 n
  pub first : a < 64
  pub second : b < 64
  pub third : c < 64
  pub fourth : d < 64
  pub fifth : e < 64
  pub sixth : f < 64
  pub seventh : g < 64
  pub eighth : h < 64
