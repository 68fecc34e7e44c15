-- Words, the places in which two of them differ, and a word changed in given places. Assumes nothing.
use Rattle.std.specs.Prelude.{List, [], ◌∷◌, ℕ, eqb, length}
use Rattle.laws.specs.Choice.{pick}
use Rattle.bits.specs.Bits.{Bit, bit0, bit1, same}

abbrev pub turned : Bit → Bit
turned bit0 = bit1
turned bit1 = bit0

-- the places in which a word f differs from c, from the first on. A place is named by the number of bits after it, the power of x that stands there
unfoldable pub errors : List Bit → List Bit → List ℕ
errors [] c = []
errors (x ∷ f) [] = []
errors (x ∷ f) (y ∷ c) = pick (same x y) (errors f c) (length f ∷ errors f c)

-- in how many places they differ
abbrev pub distance : List Bit → List Bit → ℕ
distance f c = length (errors f c)

-- the bit at place n turned
unfoldable pub changed : ℕ → List Bit → List Bit
changed n [] = []
changed n (x ∷ f) = pick (eqb n (length f)) (turned x ∷ f) (x ∷ changed n f)

unfoldable pub changes : List ℕ → List Bit → List Bit
changes [] f = f
changes (n ∷ ns) f = changes ns (changed n f)
