-- What the bit writer leaves: the bits before a place and then a word, in bytes; the last started byte filled with zeros; nothing after it touched.
-- Assumes nothing.
use Rattle.std.specs.Prelude.{◌≡◌, Bool, true, false, List, [], ◌∷◌, ◌++◌, ℕ, zero, suc, ◌+◌, ◌*◌, ◌/◌, ◌≤◌, length, drop}
use Rattle.bits.specs.Bits.{Bit, num, bits_from, source}

-- the number of the first k bits, zeros where they end, after what was read so far
unfoldable pub byte_from : ℕ → ℕ → List Bit → ℕ
byte_from zero v bs = v
byte_from (suc k) v [] = byte_from k (v * 2) []
byte_from (suc k) v (b ∷ bs) = byte_from k (v * 2 + num b) bs

-- n bytes of bits, zeros where they end
unfoldable pub bytes_of : ℕ → List Bit → List ℕ
bytes_of zero bs = []
bytes_of (suc n) bs = byte_from 8 0 bs ∷ bytes_of n (drop 8 bs)

-- how many bytes n bits start
abbrev pub started_bytes : ℕ → ℕ
started_bytes n = (n + 7) / 8

-- "It fills the output's last started byte with zeros and touches nothing after."
unfoldable pub bytes_with : List ℕ → ℕ → List Bit → List ℕ
bytes_with s at w = bytes_of (started_bytes (at + length w)) (bits_from s 0 at ++ w) ++ drop (started_bytes (at + length w)) s

-- bits that may be left out
abbrev pub bits_if : Bool → List Bit → List Bit
bits_if true bits = bits
bits_if false bits = []

-- the first bits of the bytes s are w
pub record Holds (s : List ℕ) (w : List Bit) : Type 0 where
  pub room : length w ≤ 8 * length s
  pub bits : source s (length w) ≡ w
