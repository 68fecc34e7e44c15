-- What writing one block and one macroblock leaves of a store, by blocks of its grid. Assumes nothing.
use Rattle.std.specs.Prelude.{◌≡◌, List, ℕ, ◌+◌, ◌*◌, ◌<◌, ℤ, pos, get_or, length}
use Rattle.size.specs.declared.Size.{Size}
use Rattle.size.specs.Place.{own, block_of, cell_of, On}
use Rattle.samples.specs.Content.{Values}

-- rows of a store, a stride apart
abbrev pub rows_of : List ℕ → ℕ → ℕ → ℕ → ℕ → ℕ
rows_of s start stride i j = get_or s (start + i * stride + j) 0

-- the same, as numbers that are added to
abbrev pub block_from : List ℕ → ℕ → ℕ → ℕ → ℕ → ℤ
block_from s start stride i j = pos (rows_of s start stride i j)

-- the block at (y, x) of plane p is what g says, and each other block is as it was
pub record Wrote (f : Size) (p y x : ℕ) (g : ℕ → ℕ → ℕ) (s t : List ℕ) : Type 0 where
  pub size : length t ≡ length s
  pub inside : (i j : ℕ) → i < 8 → j < 8 → cell_of f t p y x i j ≡ g i j
  pub outside : (q z v : ℕ) → On f q z v → (q ≡ p → z ≡ y → v ≡ x → ⊥) → (i j : ℕ) → i < 8 → j < 8 → cell_of f t q z v i j ≡ cell_of f s q z v i j

-- ---- a macroblock: the blocks of row r, column c whose numbers are below b
pub record Part (f : Size) (r c b : ℕ) (g : Values) (s t : List ℕ) : Type 0 where
  pub size : length t ≡ length s
  pub inside : (p y x : ℕ) → On f p y x → own p y ≡ r → own p x ≡ c → block_of p y x < b → (i j : ℕ) → i < 8 → j < 8 → cell_of f t p y x i j ≡ g p y x i j
  pub outside : (p y x : ℕ) → On f p y x → (own p y ≡ r → own p x ≡ c → ⊥) → (i j : ℕ) → i < 8 → j < 8 → cell_of f t p y x i j ≡ cell_of f s p y x i j

-- all six
abbrev pub Macroblock : Size → ℕ → ℕ → Values → List ℕ → List ℕ → Type 0
Macroblock f r c g s t = Part f r c 6 g s t
