-- The code's answers as the grammar's. A layer writes the description as it reads: its answer is the place where it ended, or the refusal. Assumes nothing.
use Rattle.std.specs.Prelude.{Option, None, Some, ℕ, ◌+◌, ◌*◌, ◌%◌, ◌<◌, List, eqb, ℤ}
use Rattle.std.proofs.lemmas.List.Edits.{sets}
use Rattle.laws.specs.Choice.{pick}
use Rattle.refusals.specs.declared.Reason.{Reason}
use Rattle.refusals.specs.declared.Reason.TheVariants.{BitsEnd, NoStartCode, QuantiserZero, OptionalMode}
use Rattle.refusals.specs.Number.{refusal}
use Rattle.bits.specs.Bits.{bits_left}
use Rattle.bits.specs.Places.{counted}
use Rattle.bits.specs.Read.{ReadIn, got, refused, Judged, fine, against}
use Rattle.bits.specs.declared.Place.{Place}
use Rattle.bits.specs.declared.Stopped.{Stopped}
use Rattle.bits.specs.declared.FieldRead.{FieldRead}
use Rattle.bits.specs.declared.FieldRead.TheVariants.{Got as GotField, Refused as NoField}
use Rattle.fields.specs.Answer.{as_meant, as_meant_pair}
use Rattle.fields.specs.Header.{Below, and_then, ruled, after_spare}
use Rattle.fields.specs.declared.CountedRead.{CountedRead}
use Rattle.size.specs.declared.Size.{Size}
use Rattle.layout.specs.Value.{Vector, Macroblock}
use Rattle.layout.specs.Flat.{index, fields_of, put_blocks}
use Rattle.h263_words.specs.declared.EventRead.{EventRead}
use Rattle.h263_words.specs.declared.EventRead.TheVariants.{Event, Refused as NoEvent}
use Rattle.h263_description.specs.declared.predicted.Kept.{Kept}
use Rattle.h263_description.specs.Landing.{component_of}
use Rattle.h263_layers.specs.Start.{Ahead, stands, absent, cut_off}
use Rattle.h263_layers.specs.Grammar.{Slot, unsent, coded, Found, stuffed, slot, Opened, Ptype, ptype_in, format_of, mode_bit, cpm_of, Header}
use Rattle.h263_layers.specs.declared.start.Ahead as C
use Rattle.h263_layers.specs.declared.start.Ahead.TheVariants.{Stands, Absent, CutOff}
use Rattle.h263_layers.specs.declared.Header as D
use Rattle.fields.specs.declared.CountedRead.TheVariants.{Got, Refused}
use Rattle.h263_layers.specs.declared.Found as F
use Rattle.h263_layers.specs.declared.Found.TheVariants.{Stuffing, Macroblock as FoundMacroblock}
use Rattle.h263_layers.specs.declared.Opened as O

abbrev pub as_ahead : C.Ahead → Ahead
as_ahead (Stands gstuf) = stands gstuf
as_ahead Absent = absent
as_ahead CutOff = cut_off

-- the refusal of an event that was refused, after so many reads; of another it is never asked
abbrev pub event_stopped : ℕ → EventRead → Stopped
event_stopped reads (Event last run code p) = record { refusal = refusal BitsEnd p; reads = reads }
event_stopped reads (NoEvent r) = record { refusal = r; reads = reads }

-- ---- vectors: the code keeps a component as 32 more than it is
abbrev pub vector_of : ℕ → ℕ → Vector
vector_of h v = record { horizontal = component_of h; vertical = component_of v }

abbrev pub vector_kept : Kept → Vector
vector_kept k = vector_of k.horizontal k.vertical

abbrev pub as_component : List ℕ → ℕ → CountedRead ℕ → ReadIn counted ℤ
as_component = as_meant component_of

abbrev pub as_vector : List ℕ → ℕ → CountedRead (ℕ × ℕ) → ReadIn counted Vector
as_vector = as_meant_pair vector_of

-- ---- macroblocks
abbrev pub slot_in : Option ℕ → Slot
slot_in None = unsent
slot_in (Some kind) = coded kind

abbrev pub found_in : F.Found → Found
found_in Stuffing = stuffed
found_in (FoundMacroblock mcbpc) = slot (slot_in mcbpc)

abbrev pub as_found : List ℕ → ℕ → CountedRead F.Found → ReadIn counted Found
as_found s n (Got f p) = got (found_in f) (bits_left s n p.bit) p
as_found s n (Refused r) = refused r

abbrev pub opened_of : ℕ → Slot → Opened
opened_of gquant s = record { gquant = gquant; slot = s }

abbrev pub opened_in : O.Opened → Opened
opened_in o = opened_of o.gquant (slot_in o.mcbpc)

abbrev pub as_opened : List ℕ → ℕ → CountedRead O.Opened → ReadIn counted Opened
as_opened s n (Got o p) = got (opened_in o) (bits_left s n p.bit) p
as_opened s n (Refused r) = refused r

-- the two buffers with a macroblock of a group laid out in them
pub record Sent : Type 0 where
  pub macroblocks : List ℕ
  pub levels : List ℕ

abbrev pub sent_in : List ℕ → List ℕ → Sent
sent_in macroblocks levels = record { macroblocks = macroblocks; levels = levels }

abbrev pub put_sent : ℕ → ℕ → List ℕ → List ℕ → Macroblock → Sent
put_sent each g macroblocks levels m =
    sent_in (sets macroblocks (index each g m.address * 4) (fields_of m)) (put_blocks levels (index each g m.address * 384) m.blocks)

-- ---- the picture
abbrev pub header_in : D.Header → Header
header_in h = record { tr = h.tr; ptype = h.ptype; type = h.kind; pquant = h.pquant }

abbrev pub as_header : List ℕ → ℕ → CountedRead D.Header → ReadIn counted Header
as_header s n (Got h p) = got (header_in h) (bits_left s n p.bit) p
as_header s n (Refused r) = refused r

-- where the next field was got too, the k bits after a field have numbers
abbrev pub Spans : ℕ → FieldRead ℕ → FieldRead ℕ → Type 0
Spans k (GotField x p) (GotField y q) = p + k < 18446744073709551616
Spans k (GotField x p) (NoField r) = Unit {0}
Spans k (NoField r) y = Unit {0}

-- what is asked of a header's fields: TR has 8 bits, PTYPE 13 after it, and PQUANT 5
pub record HeaderAsked (tr ptype pquant : FieldRead ℕ) : Type 0 where
  pub reference : Below 256 tr
  pub information : Spans 13 tr ptype
  pub quantised : Below 32 pquant

-- a refusal at a place, with so many reads
abbrev pub against_at : Reason → ℕ → ℕ → CountedRead D.Header
against_at reason place reads = Refused (record { refusal = refusal reason place; reads = reads })

-- the refusal of an optional mode, placed at its bit of PTYPE, else what comes of what PTYPE says
abbrev pub moded : ℕ → ℕ → Place → (Ptype → CountedRead D.Header) → CountedRead D.Header
moded x at next rest = pick (eqb (x % 16) 0) (rest (ptype_in x)) (against_at OptionalMode (at + mode_bit x) next.reads)

-- the rules of PSC and PQUANT
abbrev pub code_is : ℕ → Judged ℕ
code_is x = pick (eqb x 0b0000000000000000100000) (fine x) (against NoStartCode)

abbrev pub quantiser_of : ℕ → Judged ℕ
quantiser_of q = pick (eqb q 0) (against QuantiserZero) (fine q)

abbrev pub no_header : Stopped → CountedRead D.Header
no_header r = Refused r

-- what the six reads of a header come to
unfoldable pub header_of : Size → ℕ → FieldRead ℕ → FieldRead ℕ → FieldRead ℕ → FieldRead ℕ → FieldRead ℕ → CountedRead (Unit {0}) → CountedRead D.Header
header_of size at psc tr ptype pquant cpm spare =
    and_then no_header 0 psc (λ x p. ruled no_header (code_is x) at p (λ start.
    and_then no_header 1 tr (λ reference at_ptype.
    and_then no_header 2 ptype (λ y at_pquant. ruled no_header (format_of size y) at_ptype.bit at_pquant (λ information. moded information at_ptype.bit at_pquant (λ said.
    and_then no_header 3 pquant (λ z at_cpm. ruled no_header (quantiser_of z) at_pquant.bit at_cpm (λ quantised.
    and_then no_header 4 cpm (λ w at_spares. ruled no_header (cpm_of w) at_cpm.bit at_spares (λ single.
    after_spare no_header spare (λ next.
    Got (record { tr = reference; ptype = said.ptype; kind = said.type; pquant = quantised }) next)))))))))))
