-- A raw H.263 stream, byte by byte: a picture reaches from its start code, at a byte, to the next start code or end code at a byte, or to the stream's end. Assumes nothing.
use Rattle.std.specs.Prelude.{ℕ, ◌+◌, ◌-◌, ◌/◌, Bool, true, false, List, eqb, ltb, set}
use Rattle.laws.specs.Choice.{pick, both, either}
use Rattle.h263_stream.specs.declared.Stream.{Stream}

-- counts stop at the greatest number of 64 bits
abbrev pub one_more : ℕ → ℕ
one_more n = pick (ltb n 18446744073709551615) (n + 1) n

-- before the first byte: no zero has been seen
abbrev pub fresh_stream : Stream
fresh_stream = record { place = 0; older = 255; last = 255; begun = false; ongoing = false; offset = 0; count = 0 }

-- three bytes that begin with sixteen zeros and these six bits
unfoldable pub is_code : ℕ → ℕ → ℕ → ℕ → Bool
is_code six a b c = both (both (eqb a 0) (eqb b 0)) (eqb (c / 4) six)

-- "PSC (22 bits, 0000 0000 0000 0000 1 00000)"
abbrev pub is_start : ℕ → ℕ → ℕ → Bool
is_start a b c = is_code 32 a b c

-- "0000 0000 0000 0000 1 11111", the end code
abbrev pub is_end : ℕ → ℕ → ℕ → Bool
is_end a b c = is_code 63 a b c

-- what this byte completes
abbrev pub starts_at : Stream → ℕ → Bool
starts_at s byte = is_start s.older s.last byte

abbrev pub ends_at : Stream → ℕ → Bool
ends_at s byte = is_end s.older s.last byte

abbrev pub code_at : Stream → ℕ → Bool
code_at s byte = either (starts_at s byte) (ends_at s byte)

-- a picture begins with its start code, two bytes before this one
abbrev pub begun_by : Stream → ℕ → Stream
begun_by s byte = record {
  place = one_more s.place;
  older = s.last;
  last = byte;
  begun = true;
  ongoing = true;
  offset = s.place - 2;
  count = 3;
}

-- after an end code no picture is open
abbrev pub ended_by : Stream → ℕ → Stream
ended_by s byte = record {
  place = one_more s.place;
  older = s.last;
  last = byte;
  begun = s.begun;
  ongoing = false;
  offset = s.offset;
  count = 0;
}

-- a picture has one more byte
abbrev pub longer_by : Stream → ℕ → Stream
longer_by s byte = record {
  place = one_more s.place;
  older = s.last;
  last = byte;
  begun = s.begun;
  ongoing = s.ongoing;
  offset = s.offset;
  count = one_more s.count;
}

unfoldable pub stream_after : Stream → ℕ → Stream
stream_after s byte = pick (starts_at s byte) (begun_by s byte) (pick (ends_at s byte) (ended_by s byte) (longer_by s byte))

-- the picture's bytes, from the start of the buffer on, as far as it reaches: past its end nothing is set
abbrev pub beginning : ℕ → List ℕ → List ℕ
beginning byte bytes = set (set (set bytes 0 0) 1 0) 2 byte

unfoldable pub kept_after : Stream → ℕ → List ℕ → List ℕ
kept_after s byte bytes = pick (starts_at s byte) (beginning byte bytes) (pick (ends_at s byte) bytes (set bytes s.count byte))
