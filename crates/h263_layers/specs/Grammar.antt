-- Reading: from bits to a picture, or the refusal, in document 01's manner, sentence by sentence of how H.263 is read. Assumes nothing.
-- Refusals 3 and 8 are given by `field` and `word`, 4, 6 and 7 by a field's rule, 10 at a coefficient by `event_read`, 12 by `vector_read`; 5, 11, 13, 14, an INTER4V word's 8 and a DC's 10 by a rule here; 2 by `reading`.
use Rattle.std.specs.Prelude.{ℕ, zero, suc, ◌+◌, ◌-◌, ◌*◌, ◌/◌, ◌%◌, Bool, true, false, List, [], ◌∷◌, ◌++◌, leb, ltb, eqb, length}
use Rattle.laws.specs.Choice.{pick, both, either, opposite}
use Rattle.refusals.specs.declared.Reason.TheVariants.{Count, BitsEnd, NoStartCode, OtherFormat, OtherGroup, NoCodeword, Forbidden, CoefficientPast, AfterLast, OptionalMode}
use Rattle.refusals.specs.declared.Table.TheVariants.{McbpcInter}
use Rattle.refusals.specs.Number.{refusal}
use Rattle.bits.specs.Bits.{Bit, bit0, bit1, bits_of, source}
use Rattle.bits.specs.Places.{Places, plain, listed, PlaceIn, bit_in, stop_in, unread_place}
use Rattle.bits.specs.Read.{ReadIn, Read, ReaderIn, refused, failed, widths_in, ◌>>=◌, done, next, field, Judged, fine, against, judged_read, loop, never}
use Rattle.bits.specs.Code.{CodeTable, word}
use Rattle.fields.specs.Rules.{expect, quantiser, spares, optional}
use Rattle.size.specs.declared.Size.{Size}
use Rattle.size.specs.Size.{limit}
use Rattle.size.specs.Place.{macroblocks_across}
use Rattle.layout.specs.Value.{coefficient, zero_vector, Vector, Block, Macroblock, Group}
use Rattle.layout.specs.Numbers.{forbidden}
use Rattle.h263_words.specs.Tables.{mcbpc_intra, mcbpc_inter, cbpy, stuffing}
use Rattle.h263_words.specs.Words.{is_intra, is_inter, has_dquant, type_in, chroma_in, is_four, turned, dquant_in, Event, event_read}
use Rattle.h263_description.specs.Vector.{vectors_of, predictor}
use Rattle.h263_description.specs.Value.{Picture, group_numbers, format_code}
use Rattle.h263_description.specs.Fields.{stands as standing, is_intra_type}
use Rattle.h263_layers.specs.Vector.{vector_read}
use Rattle.h263_layers.specs.Start.{Ahead, stands, absent, cut_off, ahead}

-- ---- blocks
-- refusal 11: "coefficient past the 64th"; `room` coefficients may still come
abbrev pub fits : ℕ → Event → Judged Event
fits room e = pick (leb room e.sent.run) (against CoefficientPast) (fine e)

-- LAST ends a block
abbrev pub events_after : {P : Places} → (ℕ → ReaderIn P Block) → ℕ → Event → ReaderIn P Block
events_after more room e = pick (eqb e.last 1) (done (e.sent ∷ [])) (more (room - suc e.sent.run) >>= λ rest. done (e.sent ∷ rest))

unfoldable pub events : {P : Places} → ℕ → ℕ → ReaderIn P Block
events zero room = never
events (suc turns) room = judged_read event_read (fits room) >>= events_after (events turns) room

-- "an 8-bit DC code for all six (0 and 128 are 10)"
abbrev pub dc_read : {P : Places} → ReaderIn P ℕ
dc_read = judged_read (field 8) (λ code. pick (forbidden code) (against Forbidden) (fine code))

-- "then coefficients from the second place on where the pattern's bit is set"
unfoldable pub intra_block : {P : Places} → Bit → ReaderIn P Block
intra_block bit0 = do
  dc ← dc_read
  done (coefficient 0 dc ∷ [])
intra_block bit1 = do
  dc ← dc_read
  rest ← loop (λ turns. events turns 63)
  done (coefficient 0 dc ∷ rest)

-- "INTER: from the first place on"
unfoldable pub inter_block : {P : Places} → Bit → ReaderIn P Block
inter_block bit0 = done []
inter_block bit1 = loop (λ turns. events turns 64)

-- the blocks of a pattern, most significant bit first
unfoldable pub blocks_read : {P : Places} → Bool → List Bit → ReaderIn P (List Block)
blocks_read intra [] = done []
blocks_read intra (b ∷ pattern) = do
  block ← pick intra (intra_block b) (inter_block b)
  rest ← blocks_read intra pattern
  done (block ∷ rest)

-- ---- macroblocks
-- DQUANT, in a byte of two's complement
abbrev pub dquant_read : {P : Places} → ReaderIn P ℕ
dquant_read = field 2 >>= λ x. done (dquant_in x)

-- "Order: COD (INTER pictures), MCBPC, CBPY, DQUANT, MVD, blocks." COD and MCBPC are read; the pattern is CBPY's four bits, then CBPC's two
unfoldable pub macroblock : {P : Places} → Size → ℕ → ℕ → Vector → ℕ → ReaderIn P Macroblock
macroblock size number address predicted kind = do
  luminance ← word cbpy
  dquant ← optional (has_dquant (type_in kind)) 0 dquant_read
  vector ← optional (is_inter (type_in kind)) zero_vector (vector_read size number address predicted)
  blocks ← blocks_read (is_intra (type_in kind)) (bits_of 6 (turned (is_intra (type_in kind)) luminance * 4 + chroma_in kind))
  done (record { address = address; type = type_in kind; quant = dquant; vector = vector; blocks = blocks })

-- a macroblock is unsent, or of a kind
pub data Slot : Type 0 where
  unsent : Slot
  coded : ℕ → Slot

-- what stands where one is to begin: it, or stuffing before it
pub data Found : Type 0 where
  stuffed : Found
  slot : Slot → Found

-- "INTER4V words are words of Table 5: a whole one is 8 at its first bit, table 7"
abbrev pub found_of : ℕ → Judged Found
found_of kind = pick (eqb kind stuffing) (fine stuffed) (pick (is_four kind) (against (NoCodeword McbpcInter)) (fine (slot (coded kind))))

-- "COD is a field of 1 bit; in INTER pictures stuffing is COD 0 and the stuffing word."
abbrev pub found_after : {P : Places} → ℕ → ReaderIn P Found
found_after zero = judged_read (word mcbpc_inter) found_of
found_after (suc cod) = done (slot unsent)

unfoldable pub found_read : {P : Places} → Bool → ReaderIn P Found
found_read true = judged_read (word mcbpc_intra) found_of
found_read false = field 1 >>= found_after

-- ---- group headers
-- "The header's fields: GBSC 17, GN 5, GFID 2, GQUANT 5."
unfoldable pub head_fields : {P : Places} → ℕ → ReaderIn P ℕ
head_fields number = do
  gbsc ← field 17
  gn ← expect 5 number OtherGroup
  gfid ← field 2
  quantiser

-- GSTUF, where it stands, and the header; 0 where no start code stands
abbrev pub head_after : {P : Places} → ℕ → Ahead → ReaderIn P ℕ
head_after number (stands zero) = head_fields number
head_after number (stands (suc gstuf)) = field (suc gstuf) >>= λ dropped. head_fields number
head_after number absent = done 0
head_after number cut_off = λ bs at. failed BitsEnd at

unfoldable pub group_head : {P : Places} → ℕ → ReaderIn P ℕ
group_head {P} number = λ bs at. head_after number (ahead bs (bit_in P at)) bs at

-- "A header may stand before the first macroblock of every group but the first", and one alone
abbrev pub may_stand : ℕ → ℕ → ℕ → Bool
may_stand number address gquant = both (both (ltb 0 number) (eqb address 1)) (eqb gquant 0)

-- the slot of the macroblock at an address, with its group's GQUANT. "Stuffing may stand before any macroblock, and at the end of a group, before the next one's header too"
pub record Opened : Type 0 where
  pub gquant : ℕ
  pub slot : Slot

abbrev pub opened_after : {P : Places} → (ℕ → ReaderIn P Opened) → ℕ → Found → ReaderIn P Opened
opened_after more gquant stuffed = more gquant
opened_after more gquant (slot s) = done (record { gquant = gquant; slot = s })

unfoldable pub opened_from : {P : Places} → ℕ → Bool → ℕ → ℕ → ℕ → ReaderIn P Opened
opened_from zero intra number address gquant = never
opened_from (suc turns) intra number address gquant = do
  q ← optional (may_stand number address gquant) gquant (group_head number)
  found ← found_read intra
  opened_after (opened_from turns intra number address) q found

abbrev pub opened : {P : Places} → Bool → ℕ → ℕ → ℕ → ReaderIn P Opened
opened intra number address gquant = loop (λ turns. opened_from turns intra number address gquant)

-- ---- groups: "All macroblocks of the picture are sent, in rows from the top"
-- a group's GQUANT and macroblocks, and the vectors of all macroblocks up to its end, zero where one is unsent or INTRA
pub record Row : Type 0 where
  pub gquant : ℕ
  pub macroblocks : List Macroblock
  pub vectors : List Vector

abbrev pub row_with : Macroblock → Row → Row
row_with m row = record { gquant = row.gquant; macroblocks = m ∷ row.macroblocks; vectors = row.vectors }

-- a macroblock by its slot, and the others
abbrev pub row_after : {P : Places} → (ℕ → List Vector → ReaderIn P Row) → Size → ℕ → ℕ → List Vector → Opened → Slot → ReaderIn P Row
row_after more size number address vectors o unsent = more o.gquant (vectors ++ zero_vector ∷ [])
row_after more size number address vectors o (coded kind) = do
  m ← macroblock size number address (predictor (macroblocks_across size) (standing o.gquant) (vectors_of vectors) (length vectors)) kind
  row ← more o.gquant (vectors ++ m.vector ∷ [])
  done (row_with m row)

-- k macroblocks of a group, from an address on
unfoldable pub row_from : {P : Places} → ℕ → Size → Bool → ℕ → ℕ → ℕ → List Vector → ReaderIn P Row
row_from zero size intra number address gquant vectors = done (record { gquant = gquant; macroblocks = []; vectors = vectors })
row_from (suc k) size intra number address gquant vectors =
    opened intra number address gquant >>= λ o. row_after (row_from k size intra number (address + 1)) size number address vectors o o.slot

unfoldable pub groups_read : {P : Places} → Size → Bool → List ℕ → List Vector → ReaderIn P (List Group)
groups_read size intra [] vectors = done []
groups_read size intra (number ∷ numbers) vectors = do
  row ← row_from (macroblocks_across size) size intra number 1 0 vectors
  rest ← groups_read size intra numbers row.vectors
  done (record { gquant = row.gquant; macroblocks = row.macroblocks } ∷ rest)

-- ---- the picture
-- refusal 5: "bits 1, 2 not 1, 0, or bits 6 to 8 not the opened format's"
abbrev pub format_of : Size → ℕ → Judged ℕ
format_of size x = pick (both (eqb (x / 2048) 2) (eqb (x / 32 % 8) (format_code size))) (fine x) (against OtherFormat)

-- refusal 14: "one of the four optional modes, at its PTYPE bit": of bits 10 to 13 the first that is set; here from PTYPE's first bit on
abbrev pub mode_bit : ℕ → ℕ
mode_bit x = pick (eqb (x / 8 % 2) 1) 9 (pick (eqb (x / 4 % 2) 1) 10 (pick (eqb (x / 2 % 2) 1) 11 12))

-- PTYPE bits 3 to 5, and bit 9, the type
pub record Ptype : Type 0 where
  pub ptype : ℕ
  pub type : ℕ

abbrev pub ptype_in : ℕ → Ptype
ptype_in x = record { ptype = x / 256 % 8; type = x / 16 % 2 }

abbrev pub modes_of : {P : Places} → PlaceIn P → ℕ → ReaderIn P Ptype
modes_of {P} start x = λ bs at.
    pick (eqb (x % 16) 0) (done (ptype_in x) bs at) (refused (stop_in P (refusal OptionalMode (bit_in P start + mode_bit x)) at))

-- "PTYPE is one field"
unfoldable pub ptype_read : {P : Places} → Size → ReaderIn P Ptype
ptype_read size = λ bs at. next (judged_read (field 13) (format_of size) bs at) (modes_of at)

-- "14 at 48 for CPM 1"
abbrev pub cpm_of : ℕ → Judged ℕ
cpm_of cpm = pick (eqb cpm 0) (fine cpm) (against OptionalMode)

abbrev pub cpm_read : {P : Places} → ReaderIn P ℕ
cpm_read = judged_read (field 1) cpm_of

pub record Header : Type 0 where
  pub tr : ℕ
  pub ptype : ℕ
  pub type : ℕ
  pub pquant : ℕ

-- "PSC 0 (22 bits), TR 22 (8), PTYPE 30 (13), PQUANT 43 (5), CPM 48, PEI 49". "4 is given at the PSC alone"
unfoldable pub header : {P : Places} → Size → ReaderIn P Header
header size = do
  psc ← expect 22 0b0000000000000000100000 NoStartCode
  tr ← field 8
  ptype ← ptype_read size
  pquant ← quantiser
  cpm ← cpm_read
  dropped ← spares
  done (record { tr = tr; ptype = ptype.ptype; type = ptype.type; pquant = pquant })

-- refusal 13: "bits left there are 13 at that place, whatever they are"
abbrev pub ended : {P : Places} {A : Type 0} → A → ReaderIn P A
ended {P} a = λ bs. elim bs [ [] ↦ done a [] | b ∷ bs ↦ λ at. refused (stop_in P (refusal AfterLast (bit_in P at)) at) ]

unfoldable pub picture : {P : Places} → Size → ReaderIn P Picture
picture size = do
  head ← header size
  groups ← groups_read size (is_intra_type head.type) (group_numbers size) []
  ended (record { tr = head.tr; ptype = head.ptype; type = head.type; pquant = head.pquant; groups = groups })

-- refusal 2, as in H.261. From a place before all bits
abbrev pub reading_from : {P : Places} → PlaceIn P → Size → List ℕ → ℕ → ReadIn P Picture
reading_from {P} start size bytes n =
    pick (either (ltb (8 * length bytes) n) (ltb (limit size) n)) (refused (stop_in P (refusal Count 0) start)) (picture size (source bytes n) start)

unfoldable pub reading : Size → List ℕ → ℕ → Read Picture
reading size bytes n = reading_from {P = plain} 0 size bytes n

-- ---- document 02, T-13: "the list of reads that the rules give for those bits, also up to a refusal"
unfoldable pub reading_listed : Size → List ℕ → ℕ → ReadIn listed Picture
reading_listed size bytes n = reading_from unread_place size bytes n

abbrev pub read_widths : Size → List ℕ → ℕ → List ℕ
read_widths size bytes n = widths_in (reading_listed size bytes n)
