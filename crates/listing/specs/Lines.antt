-- Document 01, "The vault lister": the bytes of each line. Assumes nothing.
use Rattle.std.specs.Prelude.{ℕ, List, [], ◌∷◌, ◌++◌}
use Rattle.ticks.specs.declared.Tick.{Tick}
use Rattle.standing.specs.declared.Answer.{Answer}
use Rattle.standing.specs.declared.Standing.{Standing}
use Rattle.standing.specs.Answered.{Said, old, taken, lost, picture, refused, said}
use Rattle.text.specs.Text.{decimal, refusal_text}
use Rattle.standing.specs.declared.Standing.TheVariants as S
use Rattle.ticks.specs.declared.Tick.TheVariants as T

-- ---- the words, in ASCII
-- " old "
abbrev pub old_word : List ℕ
old_word = 32 ∷ 111 ∷ 108 ∷ 100 ∷ 32 ∷ []

-- " taken "
abbrev pub taken_word : List ℕ
taken_word = 32 ∷ 116 ∷ 97 ∷ 107 ∷ 101 ∷ 110 ∷ 32 ∷ []

-- " lost"
abbrev pub lost_word : List ℕ
lost_word = 32 ∷ 108 ∷ 111 ∷ 115 ∷ 116 ∷ []

-- " picture "
abbrev pub picture_word : List ℕ
picture_word = 32 ∷ 112 ∷ 105 ∷ 99 ∷ 116 ∷ 117 ∷ 114 ∷ 101 ∷ 32 ∷ []

-- " tick "
abbrev pub tick_word : List ℕ
tick_word = 32 ∷ 116 ∷ 105 ∷ 99 ∷ 107 ∷ 32 ∷ []

-- "about "
abbrev pub about_word : List ℕ
about_word = 97 ∷ 98 ∷ 111 ∷ 117 ∷ 116 ∷ 32 ∷ []

-- "."
abbrev pub dot : List ℕ
dot = 46 ∷ []

-- " short"
abbrev pub short_word : List ℕ
short_word = 32 ∷ 115 ∷ 104 ∷ 111 ∷ 114 ∷ 116 ∷ []

-- "end none"
abbrev pub end_none : List ℕ
end_none = 101 ∷ 110 ∷ 100 ∷ 32 ∷ 110 ∷ 111 ∷ 110 ∷ 101 ∷ []

-- "end clip "
abbrev pub end_clip : List ℕ
end_clip = 101 ∷ 110 ∷ 100 ∷ 32 ∷ 99 ∷ 108 ∷ 105 ∷ 112 ∷ 32 ∷ []

-- " catching"
abbrev pub catching_word : List ℕ
catching_word = 32 ∷ 99 ∷ 97 ∷ 116 ∷ 99 ∷ 104 ∷ 105 ∷ 110 ∷ 103 ∷ []

-- " in step at "
abbrev pub in_step_word : List ℕ
in_step_word = 32 ∷ 105 ∷ 110 ∷ 32 ∷ 115 ∷ 116 ∷ 101 ∷ 112 ∷ 32 ∷ 97 ∷ 116 ∷ 32 ∷ []

-- a line's end
abbrev pub newline : List ℕ
newline = 10 ∷ []

-- ---- the lines
-- "taken 0.0": picture and part
unfoldable pub place_text : List ℕ → ℕ → ℕ → List ℕ
place_text word n part = word ++ decimal n ++ dot ++ decimal part

-- `The lister writes "tick about 9" where estimated.`
unfoldable pub tick_text : Tick → List ℕ
tick_text (T.Exact n) = decimal n
tick_text (T.Estimated n) = about_word ++ decimal n

-- "picture 0 tick 0", "picture 2 tick about 33"
unfoldable pub picture_text : ℕ → Tick → List ℕ
picture_text n tick = picture_word ++ decimal n ++ tick_word ++ tick_text tick

-- "taken 0.0", "picture 0 tick 0", "picture 2 tick about 33", "old 0.0", "lost", "refused 21", "refused 8 at 311 table 5"
unfoldable pub text_of : Said → List ℕ
text_of (old n part) = place_text old_word n part
text_of (taken n part) = place_text taken_word n part
text_of lost = lost_word
text_of (picture n tick) = picture_text n tick
text_of (refused numbers) = refusal_text numbers

-- a line for block n
unfoldable pub line_text : ℕ → Answer → List ℕ
line_text n answer = decimal n ++ text_of (said answer) ++ newline

-- `A short last block gives "n short".`
unfoldable pub short_text : ℕ → List ℕ
short_text n = decimal n ++ (short_word ++ newline)

-- "in step at 0", "lost", "catching"
unfoldable pub standing_text : Standing → List ℕ
standing_text S.Lost = lost_word
standing_text S.Catching = catching_word
standing_text (S.InStep k) = in_step_word ++ decimal k
