-- The line on how many frames stand between pictures. Assumes nothing.
use Rattle.std.specs.Prelude.{ℕ, List, [], ◌∷◌, ◌++◌}
use Rattle.text.specs.Text.{decimal}

-- " repeated, "
abbrev pub repeated_word : List ℕ
repeated_word = 32 ∷ 114 ∷ 101 ∷ 112 ∷ 101 ∷ 97 ∷ 116 ∷ 101 ∷ 100 ∷ 44 ∷ 32 ∷ []

-- " grey", and a line's end
abbrev pub grey_word : List ℕ
grey_word = 32 ∷ 103 ∷ 114 ∷ 101 ∷ 121 ∷ 10 ∷ []

-- "9 repeated, 31 grey"
unfoldable pub timing_text : ℕ → ℕ → List ℕ
timing_text repeated grey = decimal repeated ++ repeated_word ++ decimal grey ++ grey_word
