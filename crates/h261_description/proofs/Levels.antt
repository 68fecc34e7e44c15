-- The levels of a macroblock, whatever its type. Assumes nothing.
use Prim.Native.Nat.{ℕ}
use mathlib.Core.Bool.{Bool, true, false}
use mathlib.Core.List.{List}
use lib.Dec.{T}
use Rattle.laws.specs.Choice.{pick, both, opposite}
use Rattle.laws.proofs.Choice.{both_left}
use Rattle.h261_words.specs.Words.{is_intra, has_cbp}
use Rattle.layout.specs.Numbers.{all, is_zero, is_level, codes_first}
use Rattle.layout.proofs.Levels.{zero_levels}
use Rattle.h261_description.specs.Valid.{valid_levels}

-- all are levels
pub all_levels : (type : ℕ) (levels : List ℕ) → T (valid_levels type levels) → T (all is_level levels)
all_levels type levels t = go (is_intra type) (has_cbp type) t
  where
    go : (a b : Bool) → T (pick a (both (all is_level levels) (codes_first 6 levels)) (pick b (both (all is_level levels) (opposite (all is_zero levels))) (all is_zero levels))) → T (all is_level levels)
    go true b t = both_left (all is_level levels) (codes_first 6 levels) t
    go false true t = both_left (all is_level levels) (opposite (all is_zero levels)) t
    go false false t = zero_levels levels t
