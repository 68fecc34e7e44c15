-- The picture of a valid description is proper. Assumes nothing.
use Rattle.std.specs.Prelude.{T}
use Rattle.size.specs.declared.Size.{Size}
use Rattle.layout.specs.Flat.{Flat}
use Rattle.h263_description.specs.Value.{picture_in}
use Rattle.h263_description.specs.Valid.{valid}
use Rattle.h263_description.specs.Proper.{Proper}

abbrev pub PictureProper : Type 0
PictureProper = (size : Size) (d : Flat) → T (valid size d) → Proper size (picture_in size d)
