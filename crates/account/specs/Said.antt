-- The lines that programs write on standard error of what their run met, byte by byte. Assumes nothing.
use Rattle.std.specs.Prelude.{ℕ, List, [], ◌∷◌, ◌++◌}
use Rattle.text.specs.Text.{decimal}

-- ---- the words, in ASCII
-- "blocks "
abbrev pub blocks_word : List ℕ
blocks_word = 98 ∷ 108 ∷ 111 ∷ 99 ∷ 107 ∷ 115 ∷ 32 ∷ []

-- " to "
abbrev pub to_word : List ℕ
to_word = 32 ∷ 116 ∷ 111 ∷ 32 ∷ []

-- " led to no picture", and a line's end
abbrev pub no_picture : List ℕ
no_picture = 32 ∷ 108 ∷ 101 ∷ 100 ∷ 32 ∷ 116 ∷ 111 ∷ 32 ∷ 110 ∷ 111 ∷ 32 ∷ 112 ∷ 105 ∷ 99 ∷ 116 ∷ 117 ∷ 114 ∷ 101 ∷ 10 ∷ []

-- "pictures "
abbrev pub pictures_word : List ℕ
pictures_word = 112 ∷ 105 ∷ 99 ∷ 116 ∷ 117 ∷ 114 ∷ 101 ∷ 115 ∷ 32 ∷ []

-- " are missing", and a line's end
abbrev pub are_missing : List ℕ
are_missing = 32 ∷ 97 ∷ 114 ∷ 101 ∷ 32 ∷ 109 ∷ 105 ∷ 115 ∷ 115 ∷ 105 ∷ 110 ∷ 103 ∷ 10 ∷ []

-- "pictures from "
abbrev pub pictures_from : List ℕ
pictures_from = 112 ∷ 105 ∷ 99 ∷ 116 ∷ 117 ∷ 114 ∷ 101 ∷ 115 ∷ 32 ∷ 102 ∷ 114 ∷ 111 ∷ 109 ∷ 32 ∷ []

-- " on are missing", and a line's end
abbrev pub on_are_missing : List ℕ
on_are_missing = 32 ∷ 111 ∷ 110 ∷ 32 ∷ 97 ∷ 114 ∷ 101 ∷ 32 ∷ 109 ∷ 105 ∷ 115 ∷ 115 ∷ 105 ∷ 110 ∷ 103 ∷ 10 ∷ []

-- "block "
abbrev pub block_word : List ℕ
block_word = 98 ∷ 108 ∷ 111 ∷ 99 ∷ 107 ∷ 32 ∷ []

-- " chooses clip "
abbrev pub chooses_word : List ℕ
chooses_word = 32 ∷ 99 ∷ 104 ∷ 111 ∷ 111 ∷ 115 ∷ 101 ∷ 115 ∷ 32 ∷ 99 ∷ 108 ∷ 105 ∷ 112 ∷ 32 ∷ []

-- "no picture in "
abbrev pub no_picture_in : List ℕ
no_picture_in = 110 ∷ 111 ∷ 32 ∷ 112 ∷ 105 ∷ 99 ∷ 116 ∷ 117 ∷ 114 ∷ 101 ∷ 32 ∷ 105 ∷ 110 ∷ 32 ∷ []

-- " bytes", and a line's end
abbrev pub bytes_word : List ℕ
bytes_word = 32 ∷ 98 ∷ 121 ∷ 116 ∷ 101 ∷ 115 ∷ 10 ∷ []

-- " bytes before the first picture", and a line's end
abbrev pub bytes_before : List ℕ
bytes_before = 32 ∷ 98 ∷ 121 ∷ 116 ∷ 101 ∷ 115 ∷ 32 ∷ 98 ∷ 101 ∷ 102 ∷ 111 ∷ 114 ∷ 101 ∷ 32 ∷ 116 ∷ 104 ∷ 101 ∷ 32 ∷ 102 ∷ 105 ∷ 114 ∷ 115 ∷ 116 ∷ 32 ∷ 112 ∷ 105 ∷ 99 ∷ 116 ∷ 117 ∷ 114 ∷ 101 ∷ 10 ∷ []

-- ---- the lines
-- "blocks 20 to 56 led to no picture"
unfoldable pub idle_text : ℕ → ℕ → List ℕ
idle_text from to = blocks_word ++ decimal from ++ to_word ++ decimal to ++ no_picture

-- "pictures 3 to 11 are missing"
unfoldable pub missing_text : ℕ → ℕ → List ℕ
missing_text from to = pictures_word ++ decimal from ++ to_word ++ decimal to ++ are_missing

-- after the last picture that was finished nobody knows how many there were: "pictures from 14 on are missing"
unfoldable pub rest_text : ℕ → List ℕ
rest_text from = pictures_from ++ decimal from ++ on_are_missing

-- where no clip was asked for: "block 0 chooses clip 7"
unfoldable pub chosen_text : ℕ → ℕ → List ℕ
chosen_text n clip = block_word ++ decimal n ++ chooses_word ++ decimal clip ++ (10 ∷ [])

-- "no picture in 312 bytes"
unfoldable pub nothing_text : ℕ → List ℕ
nothing_text bytes = no_picture_in ++ decimal bytes ++ bytes_word

-- of a stream: "12 bytes before the first picture"
unfoldable pub before_text : ℕ → List ℕ
before_text bytes = decimal bytes ++ bytes_before
