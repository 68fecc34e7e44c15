-- Eight bits at once: what they come to where no start code can end within them. Assumes nothing.
use Rattle.std.specs.Prelude.{◌≡◌, Bool, List, [], ◌∷◌, map, ℕ, ◌+◌, ◌/◌, ◌%◌, ◌^◌, ◌<◌, ◌≤◌, length}
use Rattle.laws.specs.Choice.{pick}
use Rattle.bits.specs.Bits.{bits_of}
use Rattle.stream.specs.declared.Stream.{Stream}
use Rattle.stream.specs.Stream.{ran_from, kept_from, until_start, is_one, bits_on}

-- a number's bits, most significant first
abbrev pub bits_of_number : ℕ → ℕ → List Bool
bits_of_number width n = map is_one (bits_of width n)

-- the place after the last one of these bits, the first of which stands after `place` others; where there is none, `last`
abbrev pub last_after : ℕ → ℕ → List Bool → ℕ
last_after place last [] = last
last_after place last (b ∷ bits) = last_after (place + 1) (pick b (place + 1) last) bits

-- and after the one before that
abbrev pub before_after : ℕ → ℕ → ℕ → List Bool → ℕ
before_after place last earlier [] = earlier
before_after place last earlier (b ∷ bits) = before_after (place + 1) (pick b (place + 1) last) (pick b last earlier) bits

-- a number of up to eight bits, and a place that can be counted on
pub record FewBits (width n place : ℕ) : Type 0 where
  pub short : width ≤ 8
  pub small : n < 2 ^ width
  pub low : place < 9223372036854775808

-- "0000 0000 0000 0001 0000": where a start code ends within the next eight bits, the last twelve are its, and a number of at most 8. There is room for the eight, and their
-- number can be counted
pub record Calm (s : Stream) (room : ℕ) : Type 0 where
  pub busy : 8 < s.window % 4096
  pub fits : s.count / 8 + 1 < room
  pub low : s.place < 9223372036854775808

-- up to the next start code the bits come to the same from there on
pub record Reaches (bytes : List ℕ) (s : Stream) (at : ℕ) (picture : List ℕ) (t : Stream) (there : ℕ) (left : List ℕ) : Type 0 where
  pub onward : at ≤ there
  pub state : ran_from s (until_start s (bits_on bytes at)) ≡ ran_from t (until_start t (bits_on bytes there))
  pub place : at + length (until_start s (bits_on bytes at)) ≡ there + length (until_start t (bits_on bytes there))
  pub kept : kept_from s (until_start s (bits_on bytes at)) picture ≡ kept_from t (until_start t (bits_on bytes there)) left
  pub long : length left ≡ length picture
