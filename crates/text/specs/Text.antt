-- Words and decimal numbers as ASCII, and text at the start of a buffer. Assumes nothing.
use Rattle.std.specs.Prelude.{ℕ, zero, suc, ◌+◌, ◌/◌, ◌%◌, List, [], ◌∷◌, ◌++◌, eqb, ltb, leb, length, drop}
use Rattle.laws.specs.Choice.{pick, both}
use Rattle.refusals.specs.Told.{Numbers}

-- the decimal digits of a number below 10 ^ places
unfoldable pub digits_in : ℕ → ℕ → List ℕ
digits_in zero n = []
digits_in (suc places) n = pick (ltb n 10) ((48 + n) ∷ []) (digits_in places (n / 10) ++ ((48 + n % 10) ∷ []))

-- 64 bits hold no number of more than twenty digits
unfoldable pub decimal : ℕ → List ℕ
decimal n = digits_in 20 n

-- the text at the buffer's start, the rest untouched
abbrev pub over : List ℕ → List ℕ → List ℕ
over text out = text ++ drop (length text) out

-- ---- a refusal: "refused 21", "refused 3 at 109", "refused 8 at 311 table 5"
-- " refused "
abbrev pub refused_word : List ℕ
refused_word = 32 ∷ 114 ∷ 101 ∷ 102 ∷ 117 ∷ 115 ∷ 101 ∷ 100 ∷ 32 ∷ []

-- " at "
abbrev pub at_word : List ℕ
at_word = 32 ∷ 97 ∷ 116 ∷ 32 ∷ []

-- " table "
abbrev pub table_word : List ℕ
table_word = 32 ∷ 116 ∷ 97 ∷ 98 ∷ 108 ∷ 101 ∷ 32 ∷ []

-- the table of codewords, for 8 only
unfoldable pub of_table : ℕ → ℕ → List ℕ
of_table number table = pick (eqb number 8) (table_word ++ decimal table) []

-- `"at" for refusals 3 to 13 only`, and 14: "the lister prints its "at" too" (T-04)
unfoldable pub at_place : Numbers → List ℕ
at_place numbers =
    pick (both (leb 3 numbers.number) (leb numbers.number 14)) (at_word ++ decimal numbers.place ++ of_table numbers.number numbers.table) []

unfoldable pub refusal_text : Numbers → List ℕ
refusal_text numbers = refused_word ++ decimal numbers.number ++ at_place numbers
