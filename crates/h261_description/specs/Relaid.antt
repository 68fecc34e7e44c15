-- A valid description is the layout of its picture. Assumes nothing.
use Rattle.std.specs.Prelude.{◌≡◌, T}
use Rattle.h261_groups.specs.declared.Format.{Format}
use Rattle.layout.specs.Flat.{Flat}
use Rattle.h261_description.specs.Value.{laid_picture, picture_in}
use Rattle.h261_description.specs.Valid.{valid}

abbrev pub LaidBack : Type 0
LaidBack = (f : Format) (d : Flat) → T (valid f d) → laid_picture f (picture_in d) ≡ d
