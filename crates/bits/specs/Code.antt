-- A table of codewords, and what reading a codeword finds. Assumes nothing.
use Rattle.std.specs.Prelude.{ℕ, ◌+◌, List, [], ◌∷◌, Bool, true, false, eqb, length, drop}
use Rattle.laws.specs.Choice.{pick, both, either}
use Rattle.refusals.specs.declared.Reason.TheVariants.{BitsEnd, NoCodeword}
use Rattle.refusals.specs.declared.Table.{Table}
use Rattle.bits.specs.Bits.{Bit, same}
use Rattle.bits.specs.Places.{Places, PlaceIn, bit_in, past_in}
use Rattle.bits.specs.Read.{ReadIn, got, failed, ReaderIn}

-- a codeword and its meaning
pub data Entry : Type 0 where
  entry : List Bit → ℕ → Entry

-- a table: its name, which a refusal carries, and its entries
pub record CodeTable : Type 0 where
  pub name : Table
  pub entries : List Entry

-- w is a beginning of bs
abbrev pub starts : List Bit → List Bit → Bool
starts [] bs = true
starts (x ∷ w) [] = false
starts (x ∷ w) (b ∷ bs) = both (same x b) (starts w bs)

-- bs is a beginning of some codeword of the table
unfoldable pub longer : List Entry → List Bit → Bool
longer [] bs = false
longer (entry w m ∷ tab) bs = either (starts bs w) (longer tab bs)

-- the first codeword of the table that bs begins with: its meaning, the bits and the place after it; else what `other` says
unfoldable pub lookup : {P : Places} → List Entry → List Bit → PlaceIn P → ReadIn P ℕ → ReadIn P ℕ
lookup [] bs at other = other
lookup {P} (entry w m ∷ tab) bs at other =
    let found = got m (drop (length w) bs) (past_in P at (bit_in P at + length w)) in
    elim (starts w bs) [ true ↦ found | false ↦ lookup tab bs at other ]

-- "if the bits left are a proper beginning of one (no bits included), the refusal is 3; if no codeword fits, 8."
-- "Codeword reads must also say which table was being read"
unfoldable pub word : {P : Places} → CodeTable → ReaderIn P ℕ
word table = λ bs at.
    let none = failed (pick (longer table.entries bs) BitsEnd (NoCodeword table.name)) at in
    lookup table.entries bs at none

-- the codeword of the meaning m, or nothing where it has none
unfoldable pub word_in : List Entry → ℕ → List Bit
word_in [] m = []
word_in (entry w m' ∷ tab) m = pick (eqb m' m) w (word_in tab m)

abbrev pub word_of : CodeTable → ℕ → List Bit
word_of table m = word_in table.entries m

-- m has a codeword
unfoldable pub has_in : List Entry → ℕ → Bool
has_in [] m = false
has_in (entry w m' ∷ tab) m = either (eqb m' m) (has_in tab m)

abbrev pub has : CodeTable → ℕ → Bool
has table m = has_in table.entries m
