-- A picture from the contents of its macroblocks, whatever the coding ("From levels to samples"). Assumes nothing.
use Rattle.std.specs.Prelude.{Bool, List, ◌++◌, ℕ, ◌/◌, ◌%◌, ℤ, pos}
use Rattle.laws.specs.Choice.{pick}
use Rattle.laws.specs.Tabulate.{rows, made}
use Rattle.size.specs.declared.Size.{Size}
use Rattle.size.specs.Place.{wide, high, own, block_of, cell_of}
use Rattle.quantiser.specs.Level.{coefficient_at}
use Rattle.quantiser.specs.Sample.{sample_of}
use Rattle.inverse.specs.Inverse.{inverse_at}

-- ---- a macroblock
-- what each row i, column j of each block (block row y, block column x of plane p) is, and what it is predicted to be
abbrev pub Values : Type 0
Values = ℕ → ℕ → ℕ → ℕ → ℕ → ℕ

abbrev pub Predictions : Type 0
Predictions = ℕ → ℕ → ℕ → ℕ → ℕ → ℤ

-- what is added to row i, column j of each block b of a macroblock
abbrev pub Differences : Type 0
Differences = ℕ → ℕ → ℕ → ℤ

-- the transform's output for the 64 bytes of a block, in transmission order
unfoldable pub difference_of : (ℕ → ℕ) → Bool → ℕ → ℕ → ℕ → ℤ
difference_of bytes intra quantiser i j = inverse_at (made (coefficient_at bytes intra quantiser)) i j

-- "prediction (0 for INTRA)": a block's prediction, where it isn't INTRA
abbrev pub unless_intra : Bool → (ℕ → ℕ → ℤ) → ℕ → ℕ → ℤ
unless_intra intra g i j = pick intra (pos 0) (g i j)

-- a macroblock's content: whether it is sent, how its blocks are predicted, and what is added to them
pub record Content : Type 0 where
  pub sent : Bool
  pub prediction : Predictions
  pub difference : Differences

-- "prediction (0 for INTRA) plus transform output, cut to 0..255"
unfoldable pub sent_values : Predictions → Differences → Values
sent_values g a p y x i j = sample_of (g p y x i j) (a (block_of p y x) i j)

-- "Macroblocks not sent are copied from the reference."
abbrev pub kept_values : Size → List ℕ → Values
kept_values f s p y x i j = cell_of f s p y x i j

unfoldable pub content_values : Size → List ℕ → Content → Values
content_values f s m p y x i j = pick m.sent (sent_values m.prediction m.difference p y x i j) (kept_values f s p y x i j)

-- ---- a picture
-- the content in each row and column of macroblocks
abbrev pub Contents : Type 0
Contents = ℕ → ℕ → Content

-- a block's values are those of the macroblock that it is of
unfoldable pub picture_values : Size → Contents → List ℕ → Values
picture_values f contents s p y x i j = content_values f s (contents (own p y) (own p x)) p y x i j

-- the sample in row y, column x of plane p
abbrev pub sample_at : Size → Contents → List ℕ → ℕ → ℕ → ℕ → ℕ
sample_at f contents s p y x = picture_values f contents s p (y / 8) (x / 8) (y % 8) (x % 8)

-- "A store holds Y rows, then CB, then CR"
unfoldable pub rendered_store : Size → Contents → List ℕ → List ℕ
rendered_store f contents s =
    rows (high f 0) (wide f 0) (sample_at f contents s 0)
    ++ (rows (high f 1) (wide f 1) (sample_at f contents s 1) ++ rows (high f 2) (wide f 2) (sample_at f contents s 2))
