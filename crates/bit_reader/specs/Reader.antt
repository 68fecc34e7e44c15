-- What a bit reader stands for: the lent bytes, how many of their bits are the picture's, and a place among them. Assumes nothing.
use Rattle.std.specs.Prelude.{ℕ, List}
use Rattle.std.specs.Borrow.{Bor}
use Rattle.bits.specs.Bits.{Bit, bits_left}
use Rattle.bits.specs.Answer.{Within}
use Rattle.bits.specs.declared.FieldRead.{FieldRead}
use Rattle.bits.specs.declared.FieldRead.TheVariants.{Got, Refused}
use Rattle.bit_reader.specs.declared.BitReader.{BitReader}

-- "A bit reader carries the lent bytes together with its place."
abbrev pub reader_over : Bor (List ℕ) → ℕ → ℕ → BitReader
reader_over bytes count place = record { bytes = bytes; count = count; place = place }

-- the bits from its place on
abbrev pub reader_bits : BitReader → List Bit
reader_bits r = bits_left r.bytes.now r.count r.place

-- its place is within the bits, and these within the bytes
abbrev pub Inside : BitReader → Type 0
Inside r = Within r.bytes.now r.count r.place

-- the place after a field; where it was refused, the end of the bits
abbrev pub place_after : ℕ → FieldRead ℕ → ℕ
place_after count (Got v p) = p
place_after count (Refused r) = count

-- the reader after a field that it read
abbrev pub reader_past : BitReader → FieldRead ℕ → BitReader
reader_past r read = reader_over r.bytes r.count (place_after r.count read)
