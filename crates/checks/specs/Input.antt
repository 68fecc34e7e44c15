-- What an input's first byte names, and what can be said of buffers that it was read into, whatever it holds. Assumes nothing.
use Rattle.std.specs.Prelude.{◌≡◌, Bool, true, List, ℕ, leb, eqb, length, Option, Some, None}
use Rattle.laws.specs.Choice.{pick, both}
use Rattle.coding.specs.declared.Kind.{Kind}
use Rattle.coding.specs.declared.Kind.TheVariants.{H261, H263}
use Rattle.checks.specs.declared.Lengths.{Lengths}
use Rattle.h261_groups.specs.declared.Format.TheVariants as F
use Rattle.size.specs.declared.Size.TheVariants as S

-- a kind by its number
abbrev pub kind_numbered : ℕ → Kind
kind_numbered n = pick (eqb n 0) (H261 F.Qcif) (pick (eqb n 1) (H261 F.Cif) (pick (eqb n 2) (H263 S.SubQcif) (pick (eqb n 3) (H263 S.Qcif) (H263 S.Cif))))

-- a buffer keeps its length
abbrev pub Kept : List ℕ → List ℕ → Type 0
Kept before after = length after ≡ length before

-- the buffers have room for the slices that were read
abbrev pub room_for : Option Lengths → ℕ → ℕ → ℕ → Bool
room_for None head macroblocks levels = true
room_for (Some read) head macroblocks levels = both (leb read.head head) (both (leb read.macroblocks macroblocks) (leb read.levels levels))
