-- The BCH (511,493) code of H.261 5.4: its codewords, and what mending a word means. Assumes nothing.
use Rattle.std.specs.Prelude.{◌≡◌, List, [], ◌∷◌, ◌++◌, map, ℕ, zero, suc, ◌≤◌, eqb, length, replicate}
use Rattle.laws.specs.Choice.{pick}
use Rattle.bits.specs.Bits.{Bit, bit0, bits_of}
use Rattle.bch.specs.Division.{Divisor, fed}
use Rattle.bch.specs.Word.{turned, distance}

-- x ^ 9 + x ^ 4 + 1
abbrev pub first : Divisor
first = record { top = 8; rest = 0b000010001 }

-- x ^ 9 + x ^ 6 + x ^ 4 + x ^ 3 + 1
abbrev pub second : Divisor
second = record { top = 8; rest = 0b001011001 }

-- "g(x) = (x^9 + x^4 + 1)(x^9 + x^6 + x^4 + x^3 + 1)" (Product, Theorems.antt)
abbrev pub generator : Divisor
generator = record { top = 17; rest = 0b001001010111001001 }

-- the remainder of a word by the generator, the word's first bit being the coefficient of the highest power
abbrev pub remainder : List Bit → ℕ
remainder w = fed generator w 0

-- the 18 bits that are sent after the 493: the remainder once 18 zeros stand in their place
unfoldable pub parity : List Bit → List Bit
parity w = bits_of 18 (fed generator (replicate 18 bit0) (remainder w))

-- 511 bits that the generator divides
pub record Codeword (c : List Bit) : Type 0 where
  pub size : length c ≡ 511
  pub divided : remainder c ≡ 0

-- c is a codeword within two bits of f
pub record Near (f c : List Bit) : Type 0 where
  pub codeword : Codeword c
  pub close : distance f c ≤ 2

pub data Outcome : Type 0 where
  mended : List Bit → Outcome
  unmended : Outcome

-- "A frame is mended only if some codeword lies within two bits of it; all others are reported .. and give no bits."
abbrev pub Mends : List Bit → Outcome → Type 0
Mends f (mended c) = Near f c
Mends f unmended = (c : List Bit) → Near f c → ⊥

-- ---- mending as a function
-- the words that differ from f in at most k places
unfoldable pub words_within : ℕ → List Bit → List (List Bit)
words_within zero f = f ∷ []
words_within (suc k) [] = [] ∷ []
words_within (suc k) (x ∷ f) = map (λ w. x ∷ w) (words_within (suc k) f) ++ map (λ w. turned x ∷ w) (words_within k f)

-- the first of these words that the generator divides
unfoldable pub first_divided : List (List Bit) → Outcome
first_divided [] = unmended
first_divided (w ∷ ws) = pick (eqb (remainder w) 0) (mended w) (first_divided ws)

-- what comes of a word of 511 bits. There is no other choice than the first: see Settled
unfoldable pub corrected : List Bit → Outcome
corrected f = first_divided (words_within 2 f)
