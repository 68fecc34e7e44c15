-- The loop filter (FIL), by its definition. Assumes nothing.
use Rattle.std.specs.Prelude.{List, ℕ, ◌+◌, ◌-◌, ◌≤◌, T, eqb, ℤ, pos, ◌+ℤ◌, ◌*ℤ◌}
use Rattle.laws.specs.Integer.{Low}
use Rattle.laws.specs.Choice.{pick, either}
use Rattle.laws.specs.Block.{cell}
use Rattle.laws.specs.Floor.{floor_divided}
use Rattle.quantiser.specs.Lines.{SmallRow}

-- One way, at place k: "weights 1, 2, 1 each way inside the 8 by 8 block, 0, 4, 0 at its edge"
unfoldable pub weighted : (ℕ → ℤ) → ℕ → ℤ
weighted g k =
    pick (either (eqb k 0) (eqb k 7)) (pos 4 *ℤ g k) (g (k - 1) +ℤ pos 2 *ℤ g k +ℤ g (k + 1))

-- "the sum plus 8, divided by 16, rounded down"
unfoldable pub rounded_sixteenth : ℤ → ℤ
rounded_sixteenth sum = floor_divided (sum +ℤ pos 8) 16

-- Down the columns, then along the row, rounded once.
unfoldable pub filter_at : List (List ℤ) → ℕ → ℕ → ℤ
filter_at block row column =
    rounded_sixteenth (weighted (λ x. weighted (λ y. cell (pos 0) block y x) row) column)

-- ---- what one way wants
-- k is a place at the edge, and one inside.
abbrev pub AtEdge : ℕ → Type 0
AtEdge k = T (either (eqb k 0) (eqb k 7))

pub record AtInside (k : ℕ) : Type 0 where
  pub least : 1 ≤ k
  pub most : k ≤ 6

-- three numbers beside each other, none larger than four samples together
pub record ThreeNumbers (a b c : ℤ) : Type 0 where
  pub before : Low 1020 a
  pub here : Low 1020 b
  pub after : Low 1020 c

-- three rows of samples, one under another
pub record ThreeRows (a b c : List ℤ) : Type 0 where
  pub above : SmallRow 255 a
  pub here : SmallRow 255 b
  pub below : SmallRow 255 c
