-- Text put into a buffer at a place, and texts put one after another. Assumes nothing.
use Rattle.std.specs.Prelude.{ℕ, ◌+◌, ◌≡◌, List, ◌++◌, length, take, drop}

-- the text from a place on, the rest untouched
abbrev pub placed_text : ℕ → List ℕ → List ℕ → List ℕ
placed_text at text out = take at out ++ text ++ drop (at + length text) out

-- the text is put at a place: what is left in the buffer, and the place after it
pub record Puts (text : List ℕ) (at : ℕ) (out left : List ℕ) (end : ℕ) : Type 0 where
  pub end_is : end ≡ at + length text
  pub left_is : left ≡ placed_text at text out
