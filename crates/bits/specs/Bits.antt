-- The bits of a list of bytes, most significant first. A place is the number of a bit. Assumes nothing.
use Rattle.std.specs.Prelude.{ℕ, zero, suc, ◌+◌, ◌-◌, ◌*◌, ◌/◌, ◌%◌, ◌^◌, List, [], ◌∷◌, ◌++◌, Bool, true, false, get_or, take}

pub data Bit : Type 0 where
  bit0 : Bit
  bit1 : Bit

abbrev pub bit_of : ℕ → Bit
bit_of zero = bit0
bit_of (suc n) = bit1

abbrev pub num : Bit → ℕ
num bit0 = 0
num bit1 = 1

-- the k low bits of x, most significant first: a field as it is sent, a codeword as it is printed
abbrev pub bits_of : ℕ → ℕ → List Bit
bits_of zero x = []
bits_of (suc k) x = bit_of (x / 2 ^ k % 2) ∷ bits_of k x

-- "A picture is a lent slice and a count of N bits, most significant bit first; the picture is exactly those bits."
unfoldable pub bits_in : List ℕ → List Bit
bits_in [] = []
bits_in (b ∷ bs) = bits_of 8 b ++ bits_in bs

abbrev pub source : List ℕ → ℕ → List Bit
source bytes n = take n (bits_in bytes)

-- ---- the same by place, as the code reads them: source s n is bitsLeft s n 0 (source-left, Source.antt)
-- bit i of s, as a number: bit 7 - i mod 8 of byte i / 8, and 0 past the end
unfoldable pub bit_num : List ℕ → ℕ → ℕ
bit_num s i = get_or s (i / 8) 0 / 2 ^ (7 - i % 8) % 2

unfoldable pub bit_at : List ℕ → ℕ → Bit
bit_at s i = bit_of (bit_num s i)

-- the k bits from place a, as a number
unfoldable pub value : List ℕ → ℕ → ℕ → ℕ
value s a zero = 0
value s a (suc k) = value s a k * 2 + bit_num s (a + k)

-- the k bits from place a
unfoldable pub bits_from : List ℕ → ℕ → ℕ → List Bit
bits_from s a zero = []
bits_from s a (suc k) = bit_at s a ∷ bits_from s (a + 1) k

-- of a source of n bits, those from place a
abbrev pub bits_left : List ℕ → ℕ → ℕ → List Bit
bits_left s n a = bits_from s a (n - a)

abbrev pub same : Bit → Bit → Bool
same bit0 bit0 = true
same bit0 bit1 = false
same bit1 bit0 = false
same bit1 bit1 = true
