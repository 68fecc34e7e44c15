-- The pictures of a whole stream: those that its bytes have, and those that are met byte by byte. Assumes nothing.
use Rattle.std.specs.Prelude.{◌≡◌, Bool, false, List, [], ◌∷◌, map, ℕ, ◌+◌, ◌-◌, ◌<◌, length, take}
use Rattle.laws.specs.Choice.{pick, both, either}
use Rattle.h263_stream.specs.declared.Stream.{Stream}
use Rattle.h263_stream.specs.Stream.{is_start, is_end, fresh_stream, code_at, stream_after, kept_after}

-- ---- what the bytes say
-- whether a start code, or an end code, stands first
abbrev pub starts_here : List ℕ → Bool
starts_here [] = false
starts_here (a ∷ []) = false
starts_here (a ∷ b ∷ []) = false
starts_here (a ∷ b ∷ c ∷ bytes) = is_start a b c

abbrev pub ends_here : List ℕ → Bool
ends_here [] = false
ends_here (a ∷ []) = false
ends_here (a ∷ b ∷ []) = false
ends_here (a ∷ b ∷ c ∷ bytes) = is_end a b c

-- the bytes before the next code
abbrev pub until_code : List ℕ → List ℕ
until_code [] = []
until_code (b ∷ bytes) = pick (either (starts_here (b ∷ bytes)) (ends_here (b ∷ bytes))) [] (b ∷ until_code bytes)

-- a picture: the byte where it begins, and its own bytes
pub record Stretch : Type 0 where
  pub offset : ℕ
  pub bytes : List ℕ

-- "pictures begin at bytes, at their PSC, and end before the next PSC or end code": of bytes the first of which is the one of this number
abbrev pub pictures_from : ℕ → List ℕ → List Stretch
pictures_from at [] = []
pictures_from at (b ∷ bytes) = pick (starts_here (b ∷ bytes)) (record { offset = at; bytes = b ∷ until_code bytes } ∷ pictures_from (at + 1) bytes) (pictures_from (at + 1) bytes)

abbrev pub pictures_of : List ℕ → List Stretch
pictures_of bytes = pictures_from 0 bytes

-- ---- what is met: a picture that is open ends where a code is completed, without the two bytes of it that were counted, and at the stream's end
-- the byte where it begins, how many bytes it has, and what the buffer holds of them
pub record Met : Type 0 where
  pub offset : ℕ
  pub count : ℕ
  pub held : List ℕ

abbrev pub met_at : Stream → ℕ → List ℕ → Met
met_at s count picture = record { offset = s.offset; count = count; held = take count picture }

abbrev pub met_from : Stream → List ℕ → List ℕ → List Met
met_from s picture [] = pick s.ongoing (met_at s s.count picture ∷ []) []
met_from s picture (b ∷ bytes) =
    pick (both s.ongoing (code_at s b)) (met_at s (s.count - 2) picture ∷ met_from (stream_after s b) (kept_after s b picture) bytes)
    (met_from (stream_after s b) (kept_after s b picture) bytes)

-- ---- they are the same, as far as the buffer reaches
abbrev pub as_met : ℕ → Stretch → Met
as_met room p = record { offset = p.offset; count = length p.bytes; held = take room p.bytes }

abbrev pub PicturesMet : Type 0
PicturesMet = (bytes picture : List ℕ) → length bytes < 18446744073709551616
    → met_from fresh_stream picture bytes ≡ map (as_met (length picture)) (pictures_of bytes)
