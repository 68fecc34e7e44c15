-- Codewords on their way out: as the code hands one to the bit writer, and an array of them by their meanings. Assumes nothing.
use Rattle.std.specs.Prelude.{◌≡◌, Bool, true, false, List, [], ◌∷◌, ℕ, ◌/◌, ◌%◌, ◌^◌, eqb, ltb, leb}
use Rattle.laws.specs.Choice.{pick, both}
use Rattle.bits.specs.Bits.{Bit, bits_of, same}
use Rattle.bits.specs.Code.{Entry, word_in, has_in}
use Rattle.bits.specs.Appended.{FieldFits}
use Rattle.bits.specs.Part.{part_passes}
use Rattle.bits.specs.declared.codeword.Codeword.{Codeword}

-- a codeword of some bits and a number
abbrev pub codeword_of : ℕ → ℕ → Codeword
codeword_of width bits = record { width = width; bits = bits }

-- c is the word: as many bits, of this number
pub record Writes (word : List Bit) (c : Codeword) : Type 0 where
  pub is : bits_of c.width c.bits ≡ word
  pub fits : FieldFits c.width c.bits

-- ---- codewords by their meanings
-- two lists of bits are the same
abbrev pub same_bits : List Bit → List Bit → Bool
same_bits [] [] = true
same_bits [] (y ∷ v) = false
same_bits (x ∷ w) [] = false
same_bits (x ∷ w) (y ∷ v) = both (same x y) (same_bits w v)

-- an entry is 32 times the codeword as a number, and its length; 0 for none
abbrev pub codeword_in : ℕ → Codeword
codeword_in e = codeword_of (e % 32) (e / 32)

-- the entry e spells the codeword of m, if it has one
unfoldable pub spells : List Entry → ℕ → ℕ → Bool
spells table m e =
    both (pick (has_in table m) (ltb 0 (e % 32)) (eqb e 0)) (both (ltb (e / 32) (2 ^ (e % 32))) (both (leb (e % 32) 16) (same_bits (bits_of (e % 32) (e / 32)) (word_in table m))))

-- the entries of t from a place on, for the meanings 0 to n - 1
abbrev pub spelt : List ℕ → ℕ → ℕ → List Entry → Bool
spelt t from n table = part_passes (spells table) t from 0 n
