-- A picture of a stream, and what stands between it and the next code at a byte: up to seven zeros, or up to seven and an end code, are no part of it. "The place of 13 says where it
-- ends." Assumes nothing.
use Rattle.std.specs.Prelude.{ℕ, zero, suc, ◌+◌, ◌-◌, ◌*◌, min, Bool, false, List, eqb, ltb, leb}
use Rattle.laws.specs.Choice.{pick, both, either}
use Rattle.refusals.specs.Told.{Numbers, Told, accepted, refused_by, verdict_on}
use Rattle.bits.specs.Bits.{value}
use Rattle.fields.specs.Answer.{found}
use Rattle.size.specs.declared.Size.{Size}
use Rattle.size.specs.declared.Size.TheVariants.{SubQcif, Qcif, Cif}
use Rattle.size.specs.Size.{limit}
use Rattle.layout.specs.Flat.{Flat}
use Rattle.h263_reader.specs.Described.{described}
use Rattle.coding.specs.declared.Kind.TheVariants.{H263}
use Rattle.coding.specs.Described.{read_of}

-- ---- what is dropped: of bits that end at `all`, those from a place on
-- less than eight zeros
unfoldable pub fills_from : List ℕ → ℕ → ℕ → Bool
fills_from bytes all at = both (ltb (all - at) 8) (eqb (value bytes at (all - at)) 0)

-- "0000 0000 0000 0000 1 11111" after so many zeros: sixteen zeros, those, and six ones
unfoldable pub ends_after : List ℕ → ℕ → ℕ → ℕ → Bool
ends_after bytes all at zeros = both (leb (zeros + 22) (all - at)) (both (eqb (value bytes at 16) 0) (eqb (value bytes (at + 16) (zeros + 6)) 63))

-- after some number of zeros below k
abbrev pub ends_within : List ℕ → ℕ → ℕ → ℕ → Bool
ends_within bytes all at zero = false
ends_within bytes all at (suc k) = either (ends_after bytes all at k) (ends_within bytes all at k)

abbrev pub is_dropped : List ℕ → ℕ → ℕ → Bool
is_dropped bytes all at = either (fills_from bytes all at) (ends_within bytes all at 8)

-- ---- N
-- of a picture's bytes no more than eight past the limit matter: a longer one is refused for its length, and an end code after a last macroblock within the limit ends within them
abbrev pub room_of : Size → ℕ
room_of SubQcif = 8200
room_of Qcif = 8200
room_of Cif = 32776

-- all bits of a picture of so many bytes
abbrev pub all_bits : Size → ℕ → ℕ
all_bits size count = 8 * min count (room_of size)

-- up to the last macroblock's end, if the rest is dropped
abbrev pub bits_to : List ℕ → ℕ → ℕ → ℕ
bits_to bytes all end = pick (is_dropped bytes all end) end all

abbrev pub bits_refused : List ℕ → ℕ → Numbers → ℕ
bits_refused bytes all numbers = pick (eqb numbers.number 13) (bits_to bytes all numbers.place) all

-- by the verdict on the bits up to the limit
abbrev pub bits_by : List ℕ → ℕ → ℕ → Told (Unit {0}) → ℕ
bits_by bytes all seen (accepted u) = bits_to bytes all seen
bits_by bytes all seen (refused_by numbers) = bits_refused bytes all numbers

unfoldable pub picture_bits : Size → List ℕ → ℕ → ℕ
picture_bits size bytes count =
    bits_by bytes (all_bits size count) (min (all_bits size count) (limit size)) (verdict_on (found (described size bytes (min (all_bits size count) (limit size)))))

-- the picture of those bits
abbrev pub picture_read : Size → List ℕ → ℕ → Flat → Told Flat
picture_read size bytes count before = read_of (H263 size) bytes (picture_bits size bytes count) before
