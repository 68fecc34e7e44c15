-- A raw H.261 stream, bit by bit: a picture reaches from its start code, at any bit, to the next one or to the stream's end. Assumes nothing.
use Rattle.std.specs.Prelude.{ℕ, ◌+◌, ◌-◌, ◌*◌, ◌/◌, ◌%◌, Bool, true, false, List, [], ◌∷◌, map, eqb, ltb, leb, length}
use Rattle.laws.specs.Choice.{pick}
use Rattle.bits.specs.Bits.{Bit, bit0, bit1, bits_of, bits_left}
use Rattle.bits.specs.Write.{bytes_with}
use Rattle.stream.specs.declared.Stream.{Stream}

abbrev pub bit_number : Bool → ℕ
bit_number true = 1
bit_number false = 0

-- counts stop at the greatest number of 64 bits
abbrev pub one_more : ℕ → ℕ
one_more n = pick (ltb n 18446744073709551615) (n + 1) n

-- before the first bit: no zero has been seen
abbrev pub fresh_stream : Stream
fresh_stream = record { place = 0; window = 1048575; begun = false; offset = 0; count = 0; last = 0; «before» = 0 }

-- the last 20 bits, with one more
abbrev pub window_after : ℕ → Bool → ℕ
window_after window bit = window % 524288 * 2 + bit_number bit

-- "PSC (20 bits, 0000 0000 0000 0001 0000)" ends with this bit
abbrev pub starts_at : Stream → Bool → Bool
starts_at s bit = eqb (window_after s.window bit) 16

-- the byte in which the start code that ends here begins
abbrev pub offset_of : ℕ → ℕ
offset_of place = (place - 20) / 8

-- a picture begins with its start code: 20 bits, the sixteenth a one
abbrev pub begun_by : Stream → Bool → Stream
begun_by s bit = record {
  place = one_more s.place;
  window = window_after s.window bit;
  begun = true;
  offset = offset_of (one_more s.place);
  count = 20;
  last = 16;
  «before» = 0;
}

-- a picture has one more bit; a one moves the place after the last one
abbrev pub longer_by : Stream → Bool → Stream
longer_by s bit = record {
  place = one_more s.place;
  window = window_after s.window bit;
  begun = s.begun;
  offset = s.offset;
  count = one_more s.count;
  last = pick bit (one_more s.count) s.last;
  «before» = pick bit s.last s.«before»;
}

unfoldable pub stream_after : Stream → Bool → Stream
stream_after s bit = pick (starts_at s bit) (begun_by s bit) (longer_by s bit)

-- the picture's bits, from the start of the buffer on, as far as it reaches
abbrev pub beginning : List ℕ → List ℕ
beginning bytes = pick (leb 20 (8 * length bytes)) (bytes_with bytes 0 (bits_of 20 16)) bytes

abbrev pub extended : ℕ → Bool → List ℕ → List ℕ
extended count bit bytes = pick (ltb count (8 * length bytes)) (bytes_with bytes count (bits_of 1 (bit_number bit))) bytes

unfoldable pub kept_after : Stream → Bool → List ℕ → List ℕ
kept_after s bit bytes = pick (starts_at s bit) (beginning bytes) (extended s.count bit bytes)

-- ---- one bit after another
abbrev pub ran_from : Stream → List Bool → Stream
ran_from s [] = s
ran_from s (b ∷ bits) = ran_from (stream_after s b) bits

abbrev pub kept_from : Stream → List Bool → List ℕ → List ℕ
kept_from s [] bytes = bytes
kept_from s (b ∷ bits) bytes = kept_from (stream_after s b) bits (kept_after s b bytes)

-- those before the one with which the next start code ends
abbrev pub until_start : Stream → List Bool → List Bool
until_start s [] = []
until_start s (b ∷ bits) = pick (starts_at s b) [] (b ∷ until_start (stream_after s b) bits)

-- ---- a stream's bytes are its bits, most significant first: those from a place on
abbrev pub is_one : Bit → Bool
is_one bit1 = true
is_one bit0 = false

abbrev pub bits_on : List ℕ → ℕ → List Bool
bits_on bytes at = map is_one (bits_left bytes (8 * length bytes) at)
