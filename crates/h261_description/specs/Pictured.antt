-- The picture of a valid description is proper. Assumes nothing.
use Rattle.std.specs.Prelude.{T}
use Rattle.h261_groups.specs.declared.Format.{Format}
use Rattle.layout.specs.Flat.{Flat}
use Rattle.h261_description.specs.Value.{picture_in}
use Rattle.h261_description.specs.Valid.{valid}
use Rattle.h261_description.specs.Proper.{Proper}

abbrev pub PictureProper : Type 0
PictureProper = (f : Format) (d : Flat) → T (valid f d) → Proper f (picture_in d)
