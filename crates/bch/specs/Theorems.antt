-- What is shown of the code (proofs/Sent.antt, Unique.antt, Search.antt): the document's numbers, and that mending has one outcome. Assumes nothing.
use Rattle.std.specs.Prelude.{◌≡◌, List, [], ◌∷◌, ◌++◌, ℕ, ◌+◌, ◌*◌, ◌^◌, ◌≤◌, length, replicate}
use Rattle.laws.specs.Xor.{◌⊕◌}
use Rattle.bits.specs.Bits.{Bit, bit0, bit1, num, bits_of}
use Rattle.bch.specs.Word.{distance}
use Rattle.bch.specs.Code.{first, second, generator, parity, Codeword, Near, Outcome, mended, Mends, corrected}

-- a times the polynomial of the bits, after what was made so far
unfoldable pub times : ℕ → List Bit → ℕ → ℕ
times a [] s = s
times a (b ∷ bs) s = times a bs ((s * 2) ⊕ (num b * a))

-- "g(x) = (x^9 + x^4 + 1)(x^9 + x^6 + x^4 + x^3 + 1)"
abbrev pub Product : Type 0
Product = times (2 ^ 9 + first.rest) (bits_of 10 (2 ^ 9 + second.rest)) 0 ≡ 2 ^ 18 + generator.rest

-- "Example: For the input data of '01111 . . . 11' (493 bits) the resulting correction parity bits are .." with the digit that our copy lacks
abbrev pub Example : Type 0
Example = parity (bit0 ∷ replicate 492 bit1) ≡ bits_of 18 0b011011010100011011

-- what is sent, 493 bits and their parity, is a codeword
abbrev pub SentDivided : Type 0
SentDivided = (w : List Bit) → length w ≡ 493 → Codeword (w ++ parity w)

abbrev pub Unique : Type 0
Unique = (f : List Bit) → length f ≡ 511 → (c c' : List Bit) → Near f c → Near f c' → c ≡ c'

-- "Any codeword with one or two wrong bits is given back as sent."
abbrev pub GivenBack : Type 0
GivenBack = (f : List Bit) → length f ≡ 511 → (c : List Bit) → Codeword c → distance f c ≤ 2 → corrected f ≡ mended c

-- what mending means leaves one outcome, and it is the one that `corrected` gives
abbrev pub Settled : Type 0
Settled = (f : List Bit) → length f ≡ 511 → (o o' : Outcome) → Mends f o → Mends f o' → o ≡ o'

abbrev pub CorrectedMends : Type 0
CorrectedMends = (f : List Bit) → length f ≡ 511 → Mends f (corrected f)

-- two codewords that differ do so in at least five places
abbrev pub FiveApart : Type 0
FiveApart = (c c' : List Bit) → Codeword c → Codeword c' → distance c c' ≤ 4 → c ≡ c'
