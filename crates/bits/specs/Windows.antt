-- What the first bits at a place decide, whether or not they are all the picture's: after how many of them a codeword has ended, or none can come.
-- So a table that is looked up by some bits reads what the table of codewords says. Assumes nothing.
use Rattle.std.specs.Prelude.{List, [], ◌∷◌, Bool, true, false, ℕ, suc}
use Rattle.laws.specs.Choice.{pick}
use Rattle.bits.specs.Bits.{Bit}
use Rattle.bits.specs.Code.{Entry, entry}
use Rattle.bits.specs.Tree.{step, no_empty}

pub data Decided : Type 0 where
  -- more bits are wanted
  undecided : Decided
  -- after k bits: no codeword begins so
  dead : ℕ → Decided
  -- after k bits: the codeword of m has ended
  ended : ℕ → ℕ → Decided

-- by what is left of the table after k bits
abbrev pub judge : List Entry → ℕ → Decided → Decided
judge [] k next = dead k
judge (entry [] m ∷ []) k next = ended k m
judge (entry [] m ∷ e ∷ tab) k next = undecided
judge (entry (x ∷ w) m ∷ tab) k next = pick (no_empty tab) next undecided

-- what the bits decide of a table of which k bits were taken already
abbrev pub decide : List Entry → List Bit → ℕ → Decided
decide tab [] k = undecided
decide tab (b ∷ bs) k = judge (step b tab) (suc k) (decide (step b tab) bs (suc k))

abbrev pub settled : Decided → Bool
settled undecided = false
settled (dead k) = true
settled (ended k m) = true
