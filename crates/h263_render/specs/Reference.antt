-- What a rendered store owes to the reference: a refresh nothing, a picture with no macroblock sent everything. Assumes nothing.
use Rattle.std.specs.Prelude.{◌≡◌, Bool, List, ℕ, ◌*◌, T, eqb, length}
use Rattle.laws.specs.Table.{all_b}
use Rattle.size.specs.declared.Size.{Size}
use Rattle.size.specs.Size.{store_length}
use Rattle.size.specs.Place.{macroblocks_across, macroblocks_down}
use Rattle.layout.specs.Flat.{Flat}
use Rattle.layout.specs.Fields.{type_of}
use Rattle.h263_description.specs.Fields.{refresh}
use Rattle.h263_description.specs.Valid.{valid}
use Rattle.h263_render.specs.Sample.{rendered}

-- no macroblock is sent
unfoldable pub nothing_sent : Size → Flat → Bool
nothing_sent size d = all_b (macroblocks_down size * macroblocks_across size) (λ n. eqb (type_of d n) 0)

-- a valid picture of type INTRA renders the same over any reference: the type alone doesn't say that every macroblock is INTRA
abbrev pub RefreshSame : Type 0
RefreshSame = (size : Size) (d : Flat) (s t : List ℕ) → T (valid size d) → T (refresh d) → rendered size d s ≡ rendered size d t

-- a picture with no macroblock sent is the reference
abbrev pub NothingSame : Type 0
NothingSame = (size : Size) (d : Flat) (s : List ℕ) → T (nothing_sent size d) → length s ≡ store_length size → rendered size d s ≡ s
