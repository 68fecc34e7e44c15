-- Reading back. Document 01: "reading back takes exactly N bits". What is written for a proper picture is read as that picture, and what is written for a valid description as that description. Assumes nothing.
use Rattle.std.specs.Prelude.{◌≡◌, List, [], ◌++◌, ℕ, ◌+◌, ◌≤◌, T, length}
use Rattle.bits.specs.Bits.{Bit}
use Rattle.bits.specs.Places.{plain}
use Rattle.bits.specs.Read.{got}
use Rattle.bits.specs.Write.{Holds}
use Rattle.size.specs.declared.Size.{Size}
use Rattle.size.specs.Size.{limit}
use Rattle.layout.specs.Flat.{Flat}
use Rattle.h263_description.specs.Value.{Picture, laid_picture, picture_in}
use Rattle.h263_description.specs.Valid.{valid}
use Rattle.h263_description.specs.Proper.{Proper}
use Rattle.h263_layers.specs.Grammar.{ended, picture, reading}
use Rattle.h263_writer.specs.Write.{picture_of, picture_bits}

-- ---- a picture
-- from any place, whatever follows: the picture that was written, and then the end, or 13 there
abbrev pub PictureBack : Type 0
PictureBack = (size : Size) (p : Picture) (rest : List Bit) (at : ℕ) → Proper size p
    → picture {P = plain} size (picture_of size p ++ rest) at ≡ ended p rest (at + length (picture_of size p))

-- so from any bytes that hold its bits first
abbrev pub PictureReadBack : Type 0
PictureReadBack = (size : Size) (p : Picture) (s : List ℕ) → Proper size p → length (picture_of size p) ≤ limit size → Holds s (picture_of size p)
    → reading size s (length (picture_of size p)) ≡ got p [] (length (picture_of size p))

-- ---- a description
pub record ReadBack (size : Size) (d : Flat) (s : List ℕ) : Type 0 where
  pub read : reading size s (length (picture_bits size d)) ≡ got (picture_in size d) [] (length (picture_bits size d))
  pub laid_out : laid_picture size (picture_in size d) ≡ d

-- a valid description whose bits are not above the limit is read from any bytes that hold them first: its picture, laid out, is that very description, and all N bits are read
abbrev pub ReadsBack : Type 0
ReadsBack = (size : Size) (d : Flat) (s : List ℕ) → T (valid size d) → length (picture_bits size d) ≤ limit size → Holds s (picture_bits size d) → ReadBack size d s

-- so two that are written alike are one; and since a picture's bits say where it ends, neither does one begin the other's bits
abbrev pub WrittenOnce : Type 0
WrittenOnce = (size : Size) (d e : Flat) (more : List Bit) → T (valid size d) → T (valid size e) → picture_bits size d ++ more ≡ picture_bits size e → (d ≡ e) × (more ≡ [])
