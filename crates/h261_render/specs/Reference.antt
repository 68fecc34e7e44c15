-- What a rendered store owes to the reference: a refresh nothing, a picture with no macroblock sent everything. Assumes nothing.
use Rattle.std.specs.Prelude.{◌≡◌, List, ℕ, T, length}
use Rattle.h261_groups.specs.declared.Format.{Format}
use Rattle.h261_groups.specs.Format.{size_of}
use Rattle.size.specs.Size.{store_length}
use Rattle.layout.specs.Flat.{Flat}
use Rattle.h261_description.specs.Fields.{refresh, nothing_sent}
use Rattle.h261_render.specs.Sample.{rendered}

-- a fully INTRA picture renders the same over any reference
abbrev pub RefreshSame : Type 0
RefreshSame = (f : Format) (d : Flat) (s t : List ℕ) → T (refresh f d) → rendered f d s ≡ rendered f d t

-- a picture with no macroblock sent is the reference
abbrev pub NothingSame : Type 0
NothingSame = (f : Format) (d : Flat) (s : List ℕ) → T (nothing_sent f d) → length s ≡ store_length (size_of f) → rendered f d s ≡ s
