-- Where the zeros of a block begin, as far as two looks show it. Assumes nothing.
use Rattle.std.specs.Prelude.{ℕ, List, take, drop}
use Rattle.laws.specs.Choice.{pick}
use Rattle.layout.specs.Numbers.{all, is_zero}

-- every level from there on is zero: a half of the 64, or three quarters, or none known
abbrev pub zeros_from : List ℕ → ℕ
zeros_from levels = pick (all is_zero (take 32 (drop 32 levels))) (pick (all is_zero (take 16 (drop 16 levels))) 16 32) 64
