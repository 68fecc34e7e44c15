-- From the 64 bytes of a block in transmission order to its coefficients ("From levels to samples"). Assumes nothing.
use Rattle.std.specs.Prelude.{Bool, List, [], ◌∷◌, ℕ, zero, suc, ◌+◌, ◌*◌, ◌-◌, ◌%◌, ◌≤◌, eqb, ltb, ℤ, pos, negsuc, neg_ℤ, get_or}
use Rattle.laws.specs.Choice.{pick, both}
use Rattle.laws.specs.Block.{cell}
use Rattle.quantiser.specs.Cut.{cut}

-- The byte at each position of the block that starts at `at`.
abbrev pub bytes_from : List ℕ → ℕ → ℕ → ℕ
bytes_from levels at position = get_or levels (at + position) 0

-- so many levels from `at` on, of a slice of this length, under a quantiser
pub record Coded (count at quantiser size : ℕ) : Type 0 where
  pub room : at + count ≤ size
  pub least : 1 ≤ quantiser
  pub most : quantiser ≤ 31

-- A level is a byte in two's complement, as an escape codes it.
unfoldable pub level_of : ℕ → ℤ
level_of byte = pick (ltb byte 128) (pos byte) (neg_ℤ (pos (256 - byte)))

-- "Q(2|L|+1), and where Q is even, that magnitude less 1"
unfoldable pub magnitude : ℕ → ℕ → ℕ
magnitude quantiser size =
    pick (eqb (quantiser % 2) 0) (quantiser * (2 * size + 1) - 1) (quantiser * (2 * size + 1))

-- "then cut to -2048..2047"
abbrev pub cut_coefficient : ℤ → ℤ
cut_coefficient z = cut (negsuc 2047) (pos 2047) z

-- "Level 0 gives 0. Other levels L with quantiser Q, sign s: s times" the magnitude, cut.
unfoldable pub coefficient : ℕ → ℤ → ℤ
coefficient quantiser (pos zero) = pos 0
coefficient quantiser (pos (suc n)) = cut_coefficient (pos (magnitude quantiser (suc n)))
coefficient quantiser (negsuc n) = cut_coefficient (neg_ℤ (pos (magnitude quantiser (suc n))))

-- "DC code n gives 8n; 255 gives 1,024."
unfoldable pub direct : ℕ → ℤ
direct code = pick (eqb code 255) (pos 1024) (pos (8 * code))

-- What the byte at a position stands for: in an INTRA block the first one is a DC code, every other one a level.
unfoldable pub value_at : (ℕ → ℕ) → Bool → ℕ → ℕ → ℤ
value_at bytes intra quantiser position =
    pick (both intra (eqb position 0)) (direct (bytes position)) (coefficient quantiser (level_of (bytes position)))

-- Figure 12, as printed: the transmission order, counted from 1.
abbrev pub figure12 : List (List ℕ)
figure12 =
    (1 ∷ 2 ∷ 6 ∷ 7 ∷ 15 ∷ 16 ∷ 28 ∷ 29 ∷ []) ∷
    (3 ∷ 5 ∷ 8 ∷ 14 ∷ 17 ∷ 27 ∷ 30 ∷ 43 ∷ []) ∷
    (4 ∷ 9 ∷ 13 ∷ 18 ∷ 26 ∷ 31 ∷ 42 ∷ 44 ∷ []) ∷
    (10 ∷ 12 ∷ 19 ∷ 25 ∷ 32 ∷ 41 ∷ 45 ∷ 54 ∷ []) ∷
    (11 ∷ 20 ∷ 24 ∷ 33 ∷ 40 ∷ 46 ∷ 53 ∷ 55 ∷ []) ∷
    (21 ∷ 23 ∷ 34 ∷ 39 ∷ 47 ∷ 52 ∷ 56 ∷ 61 ∷ []) ∷
    (22 ∷ 35 ∷ 38 ∷ 48 ∷ 51 ∷ 57 ∷ 60 ∷ 62 ∷ []) ∷
    (36 ∷ 37 ∷ 49 ∷ 50 ∷ 58 ∷ 59 ∷ 63 ∷ 64 ∷ []) ∷ []

-- The position, counted from 0, of what belongs at a row and a column.
unfoldable pub position_at : ℕ → ℕ → ℕ
position_at row column = cell 0 figure12 row column - 1

-- "A block is eight rows of eight, placed by Figure 12."
unfoldable pub coefficient_at : (ℕ → ℕ) → Bool → ℕ → ℕ → ℕ → ℤ
coefficient_at bytes intra quantiser row column = value_at bytes intra quantiser (position_at row column)

-- ---- a coefficient without a branch
-- A number with the sign of a level; 0 for level 0.
unfoldable pub signed : ℤ → ℤ → ℤ
signed number (pos zero) = pos 0
signed number (pos (suc n)) = number
signed number (negsuc n) = neg_ℤ number
