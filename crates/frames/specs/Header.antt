-- The line that YUV4MPEG2 begins with: the size, 30000:1001 pictures a second, progressive, samples of 12:11 (4:3 over 352 by 288), chroma in the middle of four. Assumes nothing.
use Rattle.std.specs.Prelude.{ℕ, List, [], ◌∷◌, ◌++◌}
use Rattle.size.specs.declared.Size.{Size}
use Rattle.size.specs.Size.{width, height}
use Rattle.text.specs.Text.{decimal}

-- "YUV4MPEG2 W"
abbrev pub width_word : List ℕ
width_word = 89 ∷ 85 ∷ 86 ∷ 52 ∷ 77 ∷ 80 ∷ 69 ∷ 71 ∷ 50 ∷ 32 ∷ 87 ∷ []

-- " H"
abbrev pub height_word : List ℕ
height_word = 32 ∷ 72 ∷ []

-- " F30000:1001 Ip A12:11 C420jpeg", and a line's end
abbrev pub rest_words : List ℕ
rest_words = 32 ∷ 70 ∷ 51 ∷ 48 ∷ 48 ∷ 48 ∷ 48 ∷ 58 ∷ 49 ∷ 48 ∷ 48 ∷ 49 ∷ 32 ∷ 73 ∷ 112 ∷ 32 ∷ 65 ∷ 49 ∷ 50 ∷ 58 ∷ 49 ∷ 49 ∷ 32 ∷ 67 ∷ 52 ∷ 50 ∷ 48 ∷ 106 ∷ 112 ∷ 101 ∷ 103 ∷ 10 ∷ []

unfoldable pub header_text : Size → List ℕ
header_text size = width_word ++ decimal (width size) ++ height_word ++ decimal (height size) ++ rest_words
