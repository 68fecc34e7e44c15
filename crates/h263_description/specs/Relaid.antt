-- A valid description is the layout of its picture. Assumes nothing.
use Rattle.std.specs.Prelude.{◌≡◌, T}
use Rattle.size.specs.declared.Size.{Size}
use Rattle.layout.specs.Flat.{Flat}
use Rattle.h263_description.specs.Value.{laid_picture, picture_in}
use Rattle.h263_description.specs.Valid.{valid}

abbrev pub LaidBack : Type 0
LaidBack = (size : Size) (d : Flat) → T (valid size d) → laid_picture size (picture_in size d) ≡ d
