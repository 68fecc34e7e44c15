-- Which blocks of a macroblock have coefficients: CBP in both standards. Assumes nothing.
use Rattle.std.specs.Prelude.{ℕ, ◌+◌, ◌*◌, ◌^◌, List, [], ◌∷◌, length}
use Rattle.layout.specs.Value.{Block}

-- "CBP is taken from the levels": 1 "if any coefficient is present for block n, else 0" (H.261)
abbrev pub presence_of : Block → ℕ
presence_of [] = 0
presence_of (c ∷ cs) = 1

-- a bit for each block, most significant first: 32 P1 + 16 P2 + 8 P3 + 4 P4 + 2 P5 + P6
unfoldable pub pattern_of : List Block → ℕ
pattern_of [] = 0
pattern_of (b ∷ bs) = presence_of b * 2 ^ length bs + pattern_of bs
