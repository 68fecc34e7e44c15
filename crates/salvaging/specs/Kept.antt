-- Document 02, T-09: "keep exactly the pictures a fresh receiver finishes in step, renumber them from 0 without gaps". What is kept of a list of blocks, by what a receiver answered to them, in
-- order. Assumes nothing.
use Rattle.std.specs.Prelude.{Bool, true, false, List, [], ◌∷◌, ℕ, ◌+◌, length}
use Rattle.laws.specs.Choice.{one_of}
use Rattle.standing.specs.Answered.{Said}
use Rattle.standing.specs.Answered as A

-- ---- pictures
-- the numbers of those that are finished
unfoldable pub kept_numbers : List Said → List ℕ
kept_numbers [] = []
kept_numbers (A.picture n tick ∷ rest) = n ∷ kept_numbers rest
kept_numbers (A.old n part ∷ rest) = kept_numbers rest
kept_numbers (A.taken n part ∷ rest) = kept_numbers rest
kept_numbers (A.lost ∷ rest) = kept_numbers rest
kept_numbers (A.refused numbers ∷ rest) = kept_numbers rest

-- "renumber them from 0 without gaps": the next one's new number, after blocks that were answered so
abbrev pub new_number : List Said → ℕ
new_number before = length (kept_numbers before)

-- the number after the last of these, or the one to start from
unfoldable pub number_after : ℕ → List ℕ → ℕ
number_after from [] = from
number_after from (n ∷ ns) = number_after (n + 1) ns

-- the old number that would follow the last kept one, 0 where none is
abbrev pub next_number : List Said → ℕ
next_number before = number_after 0 (kept_numbers before)

-- ---- blocks
-- whether a block that is taken is a part of a picture that one of the later blocks finishes
abbrev pub finished_later : Said → List Said → Bool
finished_later (A.taken n part) after = one_of (kept_numbers after) n
finished_later (A.picture n tick) after = false
finished_later (A.old n part) after = false
finished_later A.lost after = false
finished_later (A.refused numbers) after = false

-- a block goes to the new clip if it finishes a picture, or is taken for one that is finished later
abbrev pub goes_on : Said → Bool → Bool
goes_on (A.picture n tick) later = true
goes_on (A.taken n part) later = later
goes_on (A.old n part) later = false
goes_on A.lost later = false
goes_on (A.refused numbers) later = false
