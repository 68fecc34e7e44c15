-- The pictures of a whole stream: after any list of bits, what has gone by and what the buffer holds are those of its last picture. Assumes nothing.
use Rattle.std.specs.Prelude.{◌≡◌, Bool, true, false, List, [], ◌∷◌, ◌++◌, map, ℕ, ◌-◌, ◌*◌, ◌/◌, ◌<◌, ◌≤◌, min, length, take}
use Rattle.bits.specs.Bits.{Bit, bit0, bit1, source}
use Rattle.stream.specs.declared.Stream.{Stream}
use Rattle.stream.specs.Stream.{fresh_stream, starts_at, ran_from, kept_from}
use Rattle.stream.specs.Last.{start_code, Last, none, found, last_picture, last_one, before_last, longer}
use Rattle.stream.specs.Window.{number, last_twenty}

-- ---- from the first bit on
abbrev pub ran : List Bool → Stream
ran seen = ran_from fresh_stream seen

abbrev pub kept_bytes : List Bool → List ℕ → List ℕ
kept_bytes seen bytes = kept_from fresh_stream seen bytes

-- ---- what has gone by, by the last picture
abbrev pub is_found : Last → Bool
is_found none = false
is_found (found earlier picture) = true

abbrev pub earlier_of : Last → List Bool
earlier_of none = []
earlier_of (found earlier picture) = earlier

-- the picture's bits; before the first picture all bits
abbrev pub own_of : List Bool → Last → List Bool
own_of seen none = seen
own_of seen (found earlier picture) = picture

abbrev pub told : List Bool → Last → Stream
told seen l = record {
  place = length seen;
  window = number (last_twenty seen);
  begun = is_found l;
  offset = length (earlier_of l) / 8;
  count = length (own_of seen l);
  last = last_one (own_of seen l);
  «before» = before_last (own_of seen l);
}

abbrev pub state_of : List Bool → Stream
state_of seen = told seen (last_picture seen)

abbrev pub as_bit : Bool → Bit
as_bit true = bit1
as_bit false = bit0

-- a start code ends with this bit, or none does
pub data Next (seen : List Bool) (b : Bool) : Type 0 where
  starting : (earlier : List Bool) → starts_at (state_of seen) b ≡ true → seen ++ (b ∷ []) ≡ earlier ++ start_code → Next seen b
  going : starts_at (state_of seen) b ≡ false → last_picture (seen ++ (b ∷ [])) ≡ longer b (last_picture seen) → Next seen b

-- what has gone by after any bits that 64 bits can count
abbrev pub PicturesKnown : Type 0
PicturesKnown = (seen : List Bool) → length seen < 18446744073709551616 → ran seen ≡ state_of seen

-- what the buffer holds of the picture: all of its bits, or as many as it has room for
abbrev pub PictureKept : Type 0
PictureKept = (seen : List Bool) (bytes : List ℕ) (earlier picture : List Bool) → length seen < 18446744073709551616 → 20 ≤ 8 * length bytes
    → last_picture seen ≡ found earlier picture
    → source (kept_bytes seen bytes) (min (length picture) (8 * length bytes)) ≡ take (8 * length bytes) (map as_bit picture)

-- where a start code ends with the next bit, the picture before it is without the 19 bits of that code: its count, its last one, what the buffer holds of it
pub record Ended (seen : List Bool) (b : Bool) (bytes : List ℕ) (earlier whole : List Bool) : Type 0 where
  pub next : last_picture (seen ++ (b ∷ [])) ≡ found (earlier ++ whole) start_code
  pub counted : (ran seen).count - 19 ≡ length whole
  pub ones : (ran seen).«before» ≡ last_one whole
  pub held : source (kept_bytes seen bytes) (min (length whole) (8 * length bytes)) ≡ take (8 * length bytes) (map as_bit whole)

abbrev pub PictureEnded : Type 0
PictureEnded = (seen : List Bool) (b : Bool) (bytes : List ℕ) (earlier picture : List Bool) → length seen < 18446744073709551616 → 20 ≤ 8 * length bytes
    → last_picture seen ≡ found earlier picture → starts_at (ran seen) b ≡ true → Ended seen b bytes earlier (take (length picture - 19) picture)
