-- Rows of lists and blocks of 8 rows of 8 made from a function of the place. Assumes nothing.
use Rattle.std.specs.Prelude.{List, [], ◌++◌, ℕ, zero, suc}
use Rattle.laws.specs.Row.{row}

-- h rows of w elements, one after the other
unfoldable pub rows : {A : Type 0} → ℕ → ℕ → (ℕ → ℕ → A) → List A
rows zero w g = []
rows (suc h) w g = row w (g 0) ++ rows h w (λ i. g (suc i))

-- a block of 8 rows of 8
unfoldable pub made : {A : Type 0} → (ℕ → ℕ → A) → List (List A)
made g = row 8 (λ i. row 8 (g i))
