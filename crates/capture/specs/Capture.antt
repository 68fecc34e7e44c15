-- What a recording of the raw line holds: H.261 5.4.3's frames, from the place of lock on. Assumes nothing.
use Rattle.std.specs.Prelude.{Bool, true, false, List, [], ◌∷◌, ◌++◌, map, ℕ, zero, suc, ◌+◌, ◌/◌, eqb, length, take, drop}
use Rattle.laws.specs.Choice.{pick, both}
use Rattle.bits.specs.Bits.{Bit, bit0, bit1, bits_of, same}
use Rattle.bch.specs.Code.{Outcome, mended, unmended, corrected}

-- "(S1S2S3S4S5S6S7S8) = (00011011)", "three times from S1"
abbrev pub pattern : List Bit
pattern = bits_of 24 0b000110110001101100011011

-- these framing bits stand 512 bits apart, from the first bit on
unfoldable pub framed_by : List Bit → List Bit → Bool
framed_by [] bs = true
framed_by (s ∷ ss) [] = false
framed_by (s ∷ ss) (b ∷ bs) = both (same s b) (framed_by ss (drop 511 bs))

pub data LockPlace : Type 0 where
  lock_at : ℕ → LockPlace
  no_lock : LockPlace

-- "Lock is the earliest bit from which 24 framing bits, 512 bits apart, read the pattern three times from S1." `place` is that of the first bit
unfoldable pub lock_from : List Bit → ℕ → LockPlace
lock_from [] place = no_lock
lock_from (b ∷ bs) place = pick (framed_by pattern (b ∷ bs)) (lock_at place) (lock_from bs (place + 1))

-- 512 bits, or fewer where the capture ends, with the place of the first, the framing bit
pub record LineFrame : Type 0 where
  pub place : ℕ
  pub bits : List Bit

-- "Frames count from there and lock holds to the end"
unfoldable pub frames_from : ℕ → List Bit → ℕ → List LineFrame
frames_from zero bs place = []
frames_from (suc n) bs place = record { place = place; bits = take 512 bs } ∷ frames_from n (drop 512 bs) (place + 512)

-- all of them, the cut last one too
abbrev pub frames_in : List Bit → ℕ → List LineFrame
frames_in bs place = frames_from ((length bs + 511) / 512) bs place

-- ---- what comes of a frame
-- the word after the framing bit is mended; "a cut last frame is dropped and reported", as one beyond mending
unfoldable pub frame_outcome : LineFrame → Outcome
frame_outcome f = pick (eqb (length f.bits) 512) (corrected (drop 1 f.bits)) unmended

-- the 492 data bits after Fi, the mended word's first bit; none of a fill frame, whose Fi is 0, and none of one that is not mended
abbrev pub data_in : Outcome → List Bit
data_in (mended []) = []
data_in (mended (bit0 ∷ w)) = []
data_in (mended (bit1 ∷ w)) = take 492 w
data_in unmended = []

abbrev pub is_reported : Outcome → Bool
is_reported (mended c) = false
is_reported unmended = true

-- ---- of all frames
-- lists one after the other
unfoldable pub joined : {A : Type 0} → List (List A) → List A
joined [] = []
joined (l ∷ ls) = l ++ joined ls

-- those for which a test holds
unfoldable pub chosen : {A : Type 0} → (A → Bool) → List A → List A
chosen p [] = []
chosen p (x ∷ xs) = pick (p x) (x ∷ chosen p xs) (chosen p xs)

abbrev pub data_bits : List LineFrame → List Bit
data_bits fs = joined (map (λ f. data_in (frame_outcome f)) fs)

-- "all others are reported by place and give no bits"
abbrev pub report_places : List LineFrame → List ℕ
report_places fs = map (λ f. f.place) (chosen (λ f. is_reported (frame_outcome f)) fs)
