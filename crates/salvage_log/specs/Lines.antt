-- Document 02, T-09: the bytes of the log's lines, one for each entry. Assumes nothing.
use Rattle.std.specs.Prelude.{ℕ, List, [], ◌∷◌, ◌++◌}
use Rattle.refusals.specs.Told.{Told, accepted, refused_by}
use Rattle.standing.specs.Answered.{Said}
use Rattle.text.specs.Text.{decimal}
use Rattle.listing.specs.Lines.{text_of, newline}
use Rattle.salvaging.specs.Log.{LogEntry, kept, skipped, dropped}
use Rattle.salvaging.specs.Salvage.{Salvage}

-- ---- the words, in ASCII
-- " kept "
abbrev pub kept_word : List ℕ
kept_word = 32 ∷ 107 ∷ 101 ∷ 112 ∷ 116 ∷ 32 ∷ []

-- " as "
abbrev pub as_word : List ℕ
as_word = 32 ∷ 97 ∷ 115 ∷ 32 ∷ []

-- " skipped "
abbrev pub skipped_word : List ℕ
skipped_word = 32 ∷ 115 ∷ 107 ∷ 105 ∷ 112 ∷ 112 ∷ 101 ∷ 100 ∷ 32 ∷ []

-- " to "
abbrev pub to_word : List ℕ
to_word = 32 ∷ 116 ∷ 111 ∷ 32 ∷ []

-- ", ticks restart"
abbrev pub restart_word : List ℕ
restart_word = 44 ∷ 32 ∷ 116 ∷ 105 ∷ 99 ∷ 107 ∷ 115 ∷ 32 ∷ 114 ∷ 101 ∷ 115 ∷ 116 ∷ 97 ∷ 114 ∷ 116 ∷ []

-- " dropped"
abbrev pub dropped_word : List ℕ
dropped_word = 32 ∷ 100 ∷ 114 ∷ 111 ∷ 112 ∷ 112 ∷ 101 ∷ 100 ∷ []

-- "refused "
abbrev pub refused_word : List ℕ
refused_word = 114 ∷ 101 ∷ 102 ∷ 117 ∷ 115 ∷ 101 ∷ 100 ∷ 32 ∷ []

-- ---- the lines
-- "4 kept 2 as 1"
unfoldable pub kept_text : ℕ → ℕ → ℕ → List ℕ
kept_text block old new = decimal block ++ kept_word ++ decimal old ++ as_word ++ decimal new ++ newline

-- "TR is kept, so ticks across a cut restart .. and the log says so": "4 skipped 1 to 1, ticks restart"
unfoldable pub skipped_text : ℕ → ℕ → ℕ → List ℕ
skipped_text block first last = decimal block ++ skipped_word ++ decimal first ++ to_word ++ decimal last ++ (restart_word ++ newline)

-- "every block dropped with its answer", as the lister has it: "3 dropped old 2.0", "7 dropped lost", "9 dropped refused 8 at 311 table 5"
unfoldable pub dropped_text : ℕ → Said → List ℕ
dropped_text block answer = decimal block ++ dropped_word ++ text_of answer ++ newline

unfoldable pub entry_text : LogEntry → List ℕ
entry_text (kept block old new) = kept_text block old new
entry_text (skipped block first last) = skipped_text block first last
entry_text (dropped block answer) = dropped_text block answer

-- "refused 43"
unfoldable pub refused_text : ℕ → List ℕ
refused_text number = refused_word ++ decimal number ++ newline

-- ---- the log
unfoldable pub entries_text : List LogEntry → List ℕ
entries_text [] = []
entries_text (entry ∷ entries) = entry_text entry ++ entries_text entries

-- of a salvage that is refused, the refusal is all of it
unfoldable pub log_text : Told Salvage → List ℕ
log_text (accepted s) = entries_text s.log
log_text (refused_by numbers) = refused_text numbers.number
