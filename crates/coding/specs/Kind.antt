-- What a clip is opened with: its standard and the size of its pictures. Assumes nothing.
use Rattle.std.specs.Prelude.{ℕ, ◌+◌, ◌*◌, List, length, Option, Some, None}
use Rattle.bits.specs.Read.{Read}
use Rattle.size.specs.declared.Size.{Size}
use Rattle.size.specs.declared.Size.TheVariants.{SubQcif, Qcif, Cif}
use Rattle.vault.specs.declared.Standard.{Standard}
use Rattle.h261_groups.specs.Format.{size_of}
use Rattle.layout.specs.Flat.{Shape, Flat}
use Rattle.coding.specs.declared.Kind.{Kind}
use Rattle.coding.specs.declared.Kind.TheVariants.{H261, H263}
use Rattle.coding.specs.Coding.{Coding}
use Rattle.coding.specs.Lawful.{Lawful}
use Rattle.coding.specs.H261.{h261}
use Rattle.coding.specs.H263.{h263}
use Rattle.vault.specs.declared.Standard.TheVariants as S
use Rattle.h261_groups.specs.declared.Format.TheVariants as F
use Rattle.h261_description.specs.Value as V261
use Rattle.h261_layers.specs.Grammar as G261
use Rattle.h261_reader.specs.Described as R261
use Rattle.h263_description.specs.Value as V263
use Rattle.h263_layers.specs.Grammar as G263
use Rattle.h263_reader.specs.Described as R263

abbrev pub kind_size : Kind → Size
kind_size (H261 f) = size_of f
kind_size (H263 size) = size

-- what its blocks are marked with
abbrev pub kind_standard : Kind → Standard
kind_standard (H261 f) = S.H261
kind_standard (H263 size) = S.H263

-- a standard's kind of a size: H.261 has no sub-QCIF
abbrev pub kind_in : Standard → Size → Option Kind
kind_in S.H261 SubQcif = None
kind_in S.H261 Qcif = Some (H261 F.Qcif)
kind_in S.H261 Cif = Some (H261 F.Cif)
kind_in S.H263 size = Some (H263 size)

-- ---- how its descriptions are laid out, and so the lengths of their three slices
abbrev pub shape_of : Kind → Shape
shape_of (H261 f) = V261.shape f
shape_of (H263 size) = V263.shape size

abbrev pub head_length_of : Kind → ℕ
head_length_of k = (shape_of k).fixed + (shape_of k).groups

abbrev pub macroblocks_length_of : Kind → ℕ
macroblocks_length_of k = (shape_of k).groups * ((shape_of k).each * 4)

abbrev pub levels_length_of : Kind → ℕ
levels_length_of k = (shape_of k).groups * ((shape_of k).each * 384)

-- ---- what its pictures are coded by
unfoldable pub coding_of : Kind → Coding Flat
coding_of (H261 f) = h261 f
coding_of (H263 size) = h263 size

-- the description of the picture that the first N bits of lent bytes are by its grammar, the bits left and the place
abbrev pub described_by : Kind → List ℕ → ℕ → Read Flat
described_by (H261 f) = R261.described f
described_by (H263 size) = R263.described size

-- how many fields and codewords reading them makes (document 02, T-13)
unfoldable pub reads_of : Kind → List ℕ → ℕ → ℕ
reads_of (H261 f) bytes n = length (G261.read_widths f bytes n)
reads_of (H263 size) bytes n = length (G263.read_widths size bytes n)

-- each kind's coding obeys the laws
pub record AllLawful {D : Type 0} (coding : Kind → Coding D) : Type 0 where
  pub each : (k : Kind) → Lawful (kind_size k) (coding k)

abbrev pub CodingLawful : Type 0
CodingLawful = AllLawful coding_of
