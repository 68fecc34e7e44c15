-- Document 02, T-13: the line of a picture that was read. Assumes nothing.
use Rattle.std.specs.Prelude.{ℕ, List, [], ◌∷◌, ◌++◌}
use Rattle.standing.specs.declared.Answer.{Answer}
use Rattle.standing.specs.Answered.{Said, old, taken, lost, picture, refused, said}
use Rattle.text.specs.Text.{decimal}
use Rattle.listing.specs.Lines.{picture_word, text_of, newline}

-- " bits "
abbrev pub bits_word : List ℕ
bits_word = 32 ∷ 98 ∷ 105 ∷ 116 ∷ 115 ∷ 32 ∷ []

-- " reads "
abbrev pub reads_word : List ℕ
reads_word = 32 ∷ 114 ∷ 101 ∷ 97 ∷ 100 ∷ 115 ∷ 32 ∷ []

-- "picture 0", without its tick; a refusal and any other answer as the lister has it
unfoldable pub outcome_text : Said → List ℕ
outcome_text (picture n tick) = picture_word ++ decimal n
outcome_text (refused numbers) = text_of (refused numbers)
outcome_text (old n part) = text_of (old n part)
outcome_text (taken n part) = text_of (taken n part)
outcome_text lost = text_of lost

-- "bits 45531 reads 6424"
unfoldable pub counts_text : ℕ → ℕ → List ℕ
counts_text bits reads = bits_word ++ decimal bits ++ reads_word ++ decimal reads

-- "11 picture 0 bits 45531 reads 6424", "15 refused 8 at 311 table 5 bits 12223 reads 44"
unfoldable pub reads_text : ℕ → Answer → ℕ → ℕ → List ℕ
reads_text n answer bits reads = decimal n ++ outcome_text (said answer) ++ counts_text bits reads ++ newline
