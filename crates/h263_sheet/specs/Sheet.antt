-- A proof sheet for H.263 (document 02, T-04): examples that follow from the definitions, one claim over their list. Assumes nothing.
use Rattle.std.specs.Prelude.{ℕ, zero, suc, ◌≡◌, List, [], ◌∷◌, ◌++◌, ℤ, pos, negsuc, length, replicate, take}
use Rattle.refusals.specs.Told.{accepted, refused}
use Rattle.bits.specs.Bits.{Bit, bits_of}
use Rattle.bits.specs.Places.{plain}
use Rattle.bits.specs.Read.{got}
use Rattle.bits.specs.Write.{started_bytes, bytes_of}
use Rattle.fields.specs.Answer.{found}
use Rattle.size.specs.declared.Size.TheVariants.{Qcif}
use Rattle.size.specs.Size.{store_length}
use Rattle.layout.specs.Value.{Group}
use Rattle.h263_description.specs.Value.{Picture, laid_picture}
use Rattle.h263_description.specs.Vector.{median}
use Rattle.h263_description.specs.Fields.{quantiser_changed}
use Rattle.h263_description.specs.Moved.{chroma}
use Rattle.h263_layers.specs.Grammar.{reading}
use Rattle.h263_layers.specs.Vector.{component_read}
use Rattle.h263_writer.specs.Write.{picture_of}
use Rattle.h263_halves.specs.Half.{Plane, half_sample}
use Rattle.h263_render.specs.Sample.{rendered}

pub data Example : Type 0 where
  unsent_example : Example
  cut_example : Example
  longer_example : Example
  headed_example : Example
  chroma_example : Example
  halves_example : Example
  quantiser_example : Example
  wrapped_example : Example
  median_example : Example

abbrev pub examples : List Example
examples = unsent_example ∷ cut_example ∷ longer_example ∷ headed_example ∷ chroma_example ∷ halves_example ∷ quantiser_example ∷ wrapped_example ∷ median_example ∷ []

-- "QCIF, INTER, TR 1, PQUANT 1, every macroblock unsent"
abbrev row : ℕ → Group
row gquant = record { gquant = gquant; macroblocks = [] }

abbrev with_rows : List Group → Picture
with_rows groups = record { tr = 1; ptype = 0; type = 1; pquant = 1; groups = groups }

abbrev pub unsent_picture : Picture
unsent_picture = with_rows (replicate 9 (row 0))

-- "with a header at group 3"
abbrev pub headed_picture : Picture
headed_picture = with_rows (row 0 ∷ row 0 ∷ row 0 ∷ row 1 ∷ replicate 5 (row 0))

abbrev bits_in : Picture → List Bit
bits_in p = picture_of Qcif p

abbrev pub bytes_in : Picture → List ℕ
bytes_in p = bytes_of (started_bytes (length (bits_in p))) (bits_in p)

-- a plane of four samples in a corner
abbrev corner : ℕ → ℕ → ℕ → ℕ → Plane
corner a b c d zero zero = a
corner a b c d zero (suc x) = b
corner a b c d (suc y) zero = c
corner a b c d (suc y) (suc x) = d

abbrev pub Says : Example → Type 0
-- "149 bits, begins 00 00 80 06 0A 01 3F (hex), copies the reference"
Says unsent_example =
    (length (bits_in unsent_picture) ≡ 149) × (take 7 (bytes_in unsent_picture) ≡ 0x00 ∷ 0x00 ∷ 0x80 ∷ 0x06 ∷ 0x0A ∷ 0x01 ∷ 0x3F ∷ [])
    × (reading Qcif (bytes_in unsent_picture) 149 ≡ got unsent_picture [] 149)
    × ((reference : List ℕ) → length reference ≡ store_length Qcif → rendered Qcif (laid_picture Qcif unsent_picture) reference ≡ reference)
-- "148 bits: 3 at 148"; "one bit more: 13 at 149"
Says cut_example = found (reading Qcif (bytes_in unsent_picture) 148) ≡ refused 3 148
Says longer_example = found (reading Qcif (bytes_in unsent_picture) 150) ≡ refused 13 149
-- "with a header at group 3: 178 bits"
Says headed_example = (length (bits_in headed_picture) ≡ 178) × (reading Qcif (bytes_in headed_picture) 178 ≡ got headed_picture [] 178)
-- "Chroma of 5 is 3, of -1 is -1."
Says chroma_example = (chroma (pos 5) ≡ pos 3) × (chroma (negsuc 0) ≡ negsuc 0)
-- "Half between 1 and 2: 2; among 0, 0, 0, 2: 1; among 0, 0, 0, 1: 0."
Says halves_example = (half_sample (corner 1 2 0 0) 0 1 ≡ 2) × (half_sample (corner 0 0 0 2) 1 1 ≡ 1) × (half_sample (corner 0 0 0 1) 1 1 ≡ 0)
-- "Quantiser 31 and DQUANT 2: 31."
Says quantiser_example = quantiser_changed 31 2 ≡ 31
-- "Predictor 31 and difference 1: -32.": the word of 1, at any place
Says wrapped_example = (place : ℕ) → found (component_read {P = plain} (pos 31) (bits_of 3 0b010) place) ≡ accepted (negsuc 31)
-- "Median of -3, 5, 1: 1."
Says median_example = median (negsuc 2) (pos 5) (pos 1) ≡ pos 1

-- ---- the single claim
abbrev pub Each : (Example → Type 0) → List Example → Type 0
Each P [] = Unit {0}
Each P (x ∷ xs) = P x × Each P xs

abbrev pub SheetHolds : Type 0
SheetHolds = Each Says examples
