-- A part of an array of entries. Assumes nothing.
use Rattle.std.specs.Prelude.{Bool, true, false, List, [], ◌∷◌, ℕ, zero, suc, drop}
use Rattle.laws.specs.Choice.{both}

-- the first n entries of es, numbered from i on, are there and pass a test
unfoldable pub passes : (ℕ → ℕ → Bool) → ℕ → ℕ → List ℕ → Bool
passes test i zero es = true
passes test i (suc n) [] = false
passes test i (suc n) (e ∷ es) = both (test i e) (passes test (suc i) n es)

-- those of t from a place on
abbrev pub part_passes : (ℕ → ℕ → Bool) → List ℕ → ℕ → ℕ → ℕ → Bool
part_passes test t from i n = passes test i n (drop from t)
