-- Rows of elements in a list: where they lie, and what a write of one row, or of rows a stride apart, leaves of the list: every element is fixed. Assumes nothing.
use Rattle.std.specs.Prelude.{◌≡◌, ◌≢◌, ◌⊎◌, List, ℕ, ◌+◌, ◌*◌, ◌≤◌, ◌<◌, length, get_or}

-- ---- writes
-- w elements from `at` on are what g says, and the others are as they were
pub record Row (at w : ℕ) (g : ℕ → ℕ) (s t : List ℕ) : Type 0 where
  pub size : length t ≡ length s
  pub inside : (j : ℕ) → j < w → get_or t (at + j) 0 ≡ g j
  pub outside : (k : ℕ) → (k < at) ⊎ (at + w ≤ k) → get_or t k 0 ≡ get_or s k 0

-- h rows of w elements, a stride apart, are what g says, and the others are as they were
pub record Put (h w start stride : ℕ) (g : ℕ → ℕ → ℕ) (s t : List ℕ) : Type 0 where
  pub size : length t ≡ length s
  pub inside : (i j : ℕ) → i < h → j < w → get_or t (start + i * stride + j) 0 ≡ g i j
  pub outside : (k : ℕ) → ((i j : ℕ) → i < h → j < w → k ≢ start + i * stride + j) → get_or t k 0 ≡ get_or s k 0

-- the rows lie inside n elements
abbrev pub Room : ℕ → ℕ → ℕ → ℕ → ℕ → Type 0
Room h w start stride n = (i : ℕ) → i < h → start + i * stride + w ≤ n

-- ---- a list of m elements whose first n are what g says; past its end d is read
pub record Starts {A : Type 0} (d : A) (m n : ℕ) (g : ℕ → A) (r : List A) : Type 0 where
  pub size : length r ≡ m
  pub first : (j : ℕ) → j < n → get_or r j d ≡ g j

-- a list of bytes
abbrev pub Begins : ℕ → ℕ → (ℕ → ℕ) → List ℕ → Type 0
Begins m n g r = Starts 0 m n g r
