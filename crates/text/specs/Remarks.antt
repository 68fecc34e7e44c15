-- The lines that programs write on standard error, byte by byte. Assumes nothing.
use Rattle.std.specs.Prelude.{ℕ, List, [], ◌∷◌, ◌++◌}
use Rattle.refusals.specs.declared.Refusal.{Refusal}
use Rattle.refusals.specs.Told.{numbers_of}
use Rattle.text.specs.Text.{decimal, refusal_text}

-- " pictures", and a line's end
abbrev pub pictures_word : List ℕ
pictures_word = 32 ∷ 112 ∷ 105 ∷ 99 ∷ 116 ∷ 117 ∷ 114 ∷ 101 ∷ 115 ∷ 10 ∷ []

-- how many there were: "12 pictures"
unfoldable pub count_text : ℕ → List ℕ
count_text count = decimal count ++ pictures_word

-- "byte "
abbrev pub byte_word : List ℕ
byte_word = 98 ∷ 121 ∷ 116 ∷ 101 ∷ 32 ∷ []

-- a refused picture, by the byte in which its start code begins: "byte 40: refused 8 at 311 table 5"
unfoldable pub refused_text : ℕ → Refusal → List ℕ
refused_text offset why = byte_word ++ decimal offset ++ (58 ∷ []) ++ refusal_text (numbers_of why) ++ (10 ∷ [])

-- back to the line's beginning, and what it shows cleared
abbrev pub cleared : List ℕ
cleared = 13 ∷ 27 ∷ 91 ∷ 75 ∷ []

-- " pictures, byte "
abbrev pub pictures_byte : List ℕ
pictures_byte = 32 ∷ 112 ∷ 105 ∷ 99 ∷ 116 ∷ 117 ∷ 114 ∷ 101 ∷ 115 ∷ 44 ∷ 32 ∷ 98 ∷ 121 ∷ 116 ∷ 101 ∷ 32 ∷ []

-- how many pictures of a stream have been sent, and the byte in which the last one's start code begins: "12 pictures, byte 45678"
unfoldable pub progress_text : ℕ → ℕ → List ℕ
progress_text pictures offset = cleared ++ decimal pictures ++ pictures_byte ++ decimal offset
