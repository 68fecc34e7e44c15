-- The code's answers as reads that count. A layer writes the description as it reads: its answer is the place where it ended, or the refusal. Assumes nothing.
use Rattle.std.specs.Prelude.{ℕ, ◌*◌, ◌≤◌, ◌<◌, List, ℤ, pos, ◌-ℤ◌, eqb}
use Rattle.std.proofs.lemmas.List.Edits.{sets}
use Rattle.laws.specs.Choice.{pick}
use Rattle.refusals.specs.declared.Reason.TheVariants.{NoStartCode}
use Rattle.bits.specs.Bits.{bits_left}
use Rattle.bits.specs.Places.{counted}
use Rattle.bits.specs.Read.{ReadIn, got, refused, Judged, fine, against}
use Rattle.bits.specs.declared.Stopped.{Stopped}
use Rattle.bits.specs.declared.FieldRead.{FieldRead}
use Rattle.h261_groups.specs.declared.Format.{Format}
use Rattle.h261_words.specs.declared.CoefficientRead.{CoefficientRead}
use Rattle.h261_words.specs.declared.CoefficientRead.TheVariants.{Coefficient, EndOfBlock, Refused as NoCoefficient}
use Rattle.layout.specs.Value.{Vector, Macroblock}
use Rattle.h261_description.specs.Vector.{Before}
use Rattle.h261_description.specs.Value.{before_next}
use Rattle.layout.specs.Flat.{index, fields_of, put_blocks}
use Rattle.fields.specs.Answer.{place_of, as_meant, as_meant_pair}
use Rattle.fields.specs.Header.{and_then, ruled, after_spare}
use Rattle.fields.specs.declared.CountedRead.{CountedRead}
use Rattle.fields.specs.declared.CountedRead.TheVariants.{Got, Refused}
use Rattle.h261_layers.specs.Grammar.{Mba, step, stuffed, ended, ptype_of, Header}
use Rattle.h261_layers.specs.declared.Mba as code
use Rattle.h261_layers.specs.declared.Mba.TheVariants.{Step, Stuffing, Ended}
use Rattle.h261_layers.specs.declared.Behind.{Behind}

-- where a block ended, after so many reads: at EOB, or by the refusal; of a coefficient it is never asked
abbrev pub block_end : ℕ → CoefficientRead → CountedRead (Unit {0})
block_end reads (Coefficient run code p) = Got tt (place_of p reads)
block_end reads (EndOfBlock p) = Got tt (place_of p reads)
block_end reads (NoCoefficient r) = Refused (record { refusal = r; reads = reads })

-- ---- vectors: the code keeps a component as 16 more than it is
abbrev pub component_of : ℕ → ℤ
component_of x = pos x -ℤ pos 16

-- kept so, a component in -15..15
pub record Kept (x : ℕ) : Type 0 where
  pub low : 1 ≤ x
  pub high : x ≤ 31

-- kept so, a vector
pub record KeptVector (horizontal vertical : ℕ) : Type 0 where
  pub horizontally : Kept horizontal
  pub vertically : Kept vertical

abbrev pub vector_of : ℕ → ℕ → Vector
vector_of h v = record { horizontal = component_of h; vertical = component_of v }

abbrev pub as_component : List ℕ → ℕ → CountedRead ℕ → ReadIn counted ℤ
as_component = as_meant component_of

abbrev pub as_vector : List ℕ → ℕ → CountedRead (ℕ × ℕ) → ReadIn counted Vector
as_vector = as_meant_pair vector_of

-- ---- macroblocks
abbrev pub before_of : Behind → Before
before_of b = record { address = b.address; vector = vector_of b.horizontal b.vertical }

abbrev pub KeptBehind : Behind → Type 0
KeptBehind b = KeptVector b.horizontal b.vertical

-- what stands at an MBA place
abbrev pub mba_meant : code.Mba → Mba
mba_meant (Step k) = step k
mba_meant Stuffing = stuffed
mba_meant Ended = ended

abbrev pub as_mba : List ℕ → ℕ → CountedRead code.Mba → ReadIn counted Mba
as_mba s n (Got m p) = got (mba_meant m) (bits_left s n p.bit) p
as_mba s n (Refused r) = refused r

-- the two buffers with a macroblock of group g laid out in them, and what it leaves behind
pub record Sent : Type 0 where
  pub macroblocks : List ℕ
  pub levels : List ℕ
  pub before : Before

abbrev pub put_sent : ℕ → List ℕ → List ℕ → Macroblock → Sent
put_sent g macroblocks levels m = record {
  macroblocks = sets macroblocks (index 33 g m.address * 4) (fields_of m);
  levels = put_blocks levels (index 33 g m.address * 384) m.blocks;
  before = before_next m;
}

abbrev pub as_macroblock : List ℕ → ℕ → CountedRead Behind → List ℕ → List ℕ → ReadIn counted Sent
as_macroblock s n (Got b p) macroblocks levels = got (record { macroblocks = macroblocks; levels = levels; before = before_of b }) (bits_left s n p.bit) p
as_macroblock s n (Refused r) macroblocks levels = refused r

-- ---- the picture
abbrev pub as_header : List ℕ → ℕ → CountedRead (ℕ × ℕ) → ReadIn counted Header
as_header s n (Got (tr, ptype) p) = got (record { tr = tr; ptype = ptype }) (bits_left s n p.bit) p
as_header s n (Refused r) = refused r

-- spares that were got have a low number of reads
abbrev pub Counted : CountedRead (Unit {0}) → Type 0
Counted (Got u p) = p.reads < 4294967296
Counted (Refused r) = Unit {0}

-- refusal 4: "PSC or GBSC expected and not there"
abbrev pub code_is : ℕ → ℕ → Judged ℕ
code_is code x = pick (eqb x code) (fine x) (against NoStartCode)

abbrev pub no_header : Stopped → CountedRead (ℕ × ℕ)
no_header r = Refused r

-- what the five reads of a header come to
unfoldable pub header_of : Format → ℕ → FieldRead ℕ → FieldRead ℕ → FieldRead ℕ → CountedRead (Unit {0}) → FieldRead ℕ → CountedRead (ℕ × ℕ)
header_of f at psc tr ptype spare gbsc =
    and_then no_header 0 psc (λ x p. ruled no_header (code_is 16 x) at p (λ start.
    and_then no_header 1 tr (λ reference at_ptype.
    and_then no_header 2 ptype (λ y q. ruled no_header (ptype_of f y) at_ptype.bit q (λ information.
    after_spare no_header spare (λ at_gbsc.
    and_then no_header at_gbsc.reads gbsc (λ z next. ruled no_header (code_is 1 z) at_gbsc.bit next (λ group.
    Got (reference, information) next))))))))
