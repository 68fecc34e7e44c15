-- Bits appended at a place of an output, as far as it has room for them. Assumes nothing.
use Rattle.std.specs.Prelude.{ℕ, ◌+◌, ◌-◌, ◌*◌, ◌^◌, ◌≤◌, ◌<◌, ◌≡◌, List, [], ◌∷◌, length, take}
use Rattle.bits.specs.Bits.{Bit}
use Rattle.bits.specs.Write.{bytes_with}

-- a number that so many bits hold, up to 24 of them
pub record FieldFits (width value : ℕ) : Type 0 where
  pub some : 1 ≤ width
  pub short : width ≤ 24
  pub small : value < 2 ^ width

-- no bits change nothing
abbrev pub appended_bits : List ℕ → ℕ → List Bit → List ℕ
appended_bits s at [] = s
appended_bits s at (b ∷ bs) = bytes_with s at (b ∷ bs)

-- of these bits, those that have room in s from a place on
abbrev pub bits_with_room : List ℕ → ℕ → List Bit → List Bit
bits_with_room s at bits = take (8 * length s - at) bits

-- these bits were appended at a place as far as there was room, and `place` is the next, whether there was or not
pub record WroteBits (bits : List Bit) (before : List ℕ) (at : ℕ) (after : List ℕ) (place : ℕ) : Type 0 where
  pub is : after ≡ appended_bits before at (bits_with_room before at bits)
  pub next : place ≡ at + length bits

-- the place after these bits can be counted
pub record CountablePlace (at : ℕ) (bits : List Bit) : Type 0 where
  pub low : at + length bits < 4294967296
