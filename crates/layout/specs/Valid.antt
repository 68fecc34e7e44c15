-- A test of every macroblock of a description, group by group, and of its lengths: what a standard's validity is made of. Assumes nothing.
use Rattle.std.specs.Prelude.{ℕ, zero, suc, ◌+◌, ◌*◌, ◌≡◌, Bool, true, List, [], ◌∷◌, eqb, length, take, drop}
use Rattle.laws.specs.Choice.{both}
use Rattle.layout.specs.Flat.{Flat, Shape}

-- k macroblocks from an address on, each by its address, its four bytes and its 384 levels
unfoldable pub every_macroblock : (ℕ → List ℕ → List ℕ → Bool) → ℕ → ℕ → List ℕ → List ℕ → Bool
every_macroblock good zero address fields levels = true
every_macroblock good (suc k) address fields levels =
    both (good address (take 4 fields) (take 384 levels)) (every_macroblock good k (address + 1) (drop 4 fields) (drop 384 levels))

-- the macroblocks of each group, `each` to a group, by the group's number too
unfoldable pub every_group : ℕ → (ℕ → ℕ → List ℕ → List ℕ → Bool) → List ℕ → List ℕ → List ℕ → Bool
every_group each good [] fields levels = true
every_group each good (number ∷ numbers) fields levels =
    both (every_macroblock (good number) each 1 fields levels) (every_group each good numbers (drop (each * 4) fields) (drop (each * 384) levels))

-- the lengths of a shape's description
abbrev pub has_lengths : Shape → Flat → Bool
has_lengths s d =
    both (eqb (length d.head) (s.fixed + s.groups))
    (both (eqb (length d.macroblocks) (s.groups * (s.each * 4))) (eqb (length d.levels) (s.groups * (s.each * 384))))

-- and these lengths as facts
pub record Lengths (s : Shape) (d : Flat) : Type 0 where
  pub head_length : length d.head ≡ s.fixed + s.groups
  pub macroblocks_length : length d.macroblocks ≡ s.groups * (s.each * 4)
  pub levels_length : length d.levels ≡ s.groups * (s.each * 384)
