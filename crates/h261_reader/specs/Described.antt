-- The description that bits give. Assumes nothing.
use Rattle.std.specs.Prelude.{ℕ, List}
use Rattle.bits.specs.Read.{Read}
use Rattle.h261_groups.specs.declared.Format.{Format}
use Rattle.layout.specs.Flat.{Flat}
use Rattle.h261_description.specs.Value.{laid_picture}
use Rattle.fields.specs.Answer.{map_read}
use Rattle.h261_layers.specs.Grammar.{reading}

-- the description of the picture that N bits of a slice are
unfoldable pub described : Format → List ℕ → ℕ → Read Flat
described f bytes n = map_read (laid_picture f) (reading f bytes n)
