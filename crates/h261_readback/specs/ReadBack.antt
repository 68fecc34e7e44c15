-- Reading back. Document 01: "reading back takes exactly N bits". What is written for a proper picture is read as that picture, and what is written for a valid description as that description. Assumes nothing.
use Rattle.std.specs.Prelude.{◌≡◌, List, [], ℕ, ◌≤◌, T, length}
use Rattle.bits.specs.Read.{got}
use Rattle.h261_groups.specs.Format.{size_of}
use Rattle.size.specs.Size.{limit}
use Rattle.h261_groups.specs.declared.Format.{Format}
use Rattle.h261_description.specs.Value.{Picture, laid_picture, picture_in}
use Rattle.layout.specs.Flat.{Flat}
use Rattle.h261_description.specs.Valid.{valid}
use Rattle.h261_description.specs.Proper.{Proper}
use Rattle.h261_layers.specs.Grammar.{reading}
use Rattle.h261_writer.specs.Write.{picture_of, picture_bits}
use Rattle.bits.specs.Write.{Holds}

abbrev pub PictureReadBack : Type 0
PictureReadBack = (f : Format) (p : Picture) (s : List ℕ) → Proper f p → length (picture_of f p) ≤ limit (size_of f) → Holds s (picture_of f p)
    → reading f s (length (picture_of f p)) ≡ got p [] (length (picture_of f p))

-- ---- a description
pub record ReadBack (f : Format) (d : Flat) (s : List ℕ) : Type 0 where
  pub read : reading f s (length (picture_bits f d)) ≡ got (picture_in d) [] (length (picture_bits f d))
  pub laid_out : laid_picture f (picture_in d) ≡ d

-- a valid description whose bits are not above the limit is read from any bytes that hold them first: its picture, laid out, is that very description, and all N bits are read
abbrev pub ReadsBack : Type 0
ReadsBack = (f : Format) (d : Flat) (s : List ℕ) → T (valid f d) → length (picture_bits f d) ≤ limit (size_of f) → Holds s (picture_bits f d) → ReadBack f d s

-- so two that are written alike are one
abbrev pub WrittenOnce : Type 0
WrittenOnce = (f : Format) (d e : Flat) → T (valid f d) → T (valid f e) → picture_bits f d ≡ picture_bits f e → d ≡ e
