-- Reading: from bits to a picture, or the refusal. Document 01, "Bits and codewords", sentence by sentence. Assumes nothing.
-- Refusals 3 and 8 are given by `field` and `word`, 4, 6 and 7 by a field's rule (`expect`, `quantiser`), 10 at a coefficient by `coefficient_read`, 12 by `vector_read`; 5, 9, 11, 13 and a DC's 10 by a rule here; 2 by `reading`.
use Rattle.std.specs.Prelude.{ℕ, zero, suc, ◌+◌, ◌-◌, ◌*◌, ◌/◌, ◌%◌, Bool, true, false, List, [], ◌∷◌, leb, ltb, eqb, length}
use Rattle.laws.specs.Choice.{pick, both, either}
use Rattle.refusals.specs.declared.Reason.TheVariants.{Count, NoStartCode, OtherFormat, OtherGroup, AddressPast, Forbidden, CoefficientPast, AfterLast}
use Rattle.refusals.specs.Number.{refusal}
use Rattle.bits.specs.Bits.{Bit, bit0, bit1, bits_of, source}
use Rattle.bits.specs.Places.{Places, plain, listed, PlaceIn, stop_in, unread_place}
use Rattle.bits.specs.Read.{ReadIn, Read, refused, ReaderIn, widths_in, ◌>>=◌, done, field, Judged, fine, against, judged_read, or_end, loop, never}
use Rattle.bits.specs.Code.{CodeTable, word}
use Rattle.fields.specs.Rules.{expect, quantiser, spares, optional}
use Rattle.h261_words.specs.Tables.{table1, table2, table4, stuffing, start_code, first_table5, later_table5}
use Rattle.h261_words.specs.Words.{is_intra, is_mc, has_mquant, has_cbp, Event, sent, over, coefficient_read}
use Rattle.layout.specs.Value.{coefficient, zero_vector, Block, Macroblock, Group}
use Rattle.layout.specs.Numbers.{forbidden}
use Rattle.size.specs.Size.{limit}
use Rattle.h261_groups.specs.Format.{format_bit, group_numbers, size_of}
use Rattle.h261_groups.specs.declared.Format.{Format}
use Rattle.h261_description.specs.Vector.{Before, at_start, preceding}
use Rattle.h261_description.specs.Value.{Picture, before_next}
use Rattle.h261_layers.specs.Vector.{vector_read}

-- ---- blocks
-- refusal 11: "coefficient past the 64th"; `room` coefficients may still come
abbrev pub fits : ℕ → Event → Judged Event
fits room (sent c) = pick (leb room c.run) (against CoefficientPast) (fine (sent c))
fits room over = fine over

-- EOB ends a block; after a coefficient come the others
abbrev pub coefficients_after : {P : Places} → (ℕ → ReaderIn P Block) → ℕ → Event → ReaderIn P Block
coefficients_after more room over = done []
coefficients_after more room (sent c) = more (room - suc c.run) >>= λ rest. done (c ∷ rest)

unfoldable pub coefficients : {P : Places} → ℕ → ℕ → CodeTable → ReaderIn P Block
coefficients zero room table = never
coefficients (suc turns) room table =
    judged_read (coefficient_read table) (fits room) >>= coefficients_after (λ left. coefficients turns left later_table5) room

-- "each with an 8-bit DC code first"; refusal 10: "DC codes 0 and 128 are forbidden"
abbrev pub dc_read : {P : Places} → ReaderIn P ℕ
dc_read = judged_read (field 8) (λ code. pick (forbidden code) (against Forbidden) (fine code))

unfoldable pub intra_block : {P : Places} → ReaderIn P Block
intra_block = do
  dc ← dc_read
  rest ← loop (λ turns. coefficients turns 63 later_table5)
  done (coefficient 0 dc ∷ rest)

-- "In a non-INTRA block the first coefficient uses "1s" for run 0, level 1, and EOB can't come first."
unfoldable pub inter_block : {P : Places} → ReaderIn P Block
inter_block = loop (λ turns. coefficients turns 64 first_table5)

-- the blocks that a pattern names, most significant bit first; the others are empty
unfoldable pub blocks_read : {P : Places} → Bool → List Bit → ReaderIn P (List Block)
blocks_read intra [] = done []
blocks_read intra (bit0 ∷ pattern) = do
  rest ← blocks_read intra pattern
  done ([] ∷ rest)
blocks_read intra (bit1 ∷ pattern) = do
  block ← pick intra intra_block inter_block
  rest ← blocks_read intra pattern
  done (block ∷ rest)

-- "INTRA sends all six ..; other types those in CBP."
abbrev pub pattern_read : {P : Places} → ℕ → ReaderIn P ℕ
pattern_read type = optional (has_cbp type) (pick (is_intra type) 63 0) (word table4)

-- ---- macroblocks
-- "Macroblock: MBA (Table 1; stuffing is dropped), MTYPE, MQUANT 5, MVD, CBP as the type says." MBA is read: a step from the last address
unfoldable pub macroblock : {P : Places} → Format → ℕ → Before → ℕ → ReaderIn P Macroblock
macroblock f group before step = do
  type ← word table2
  mquant ← optional (has_mquant type) 0 quantiser
  vector ← optional (is_mc type) zero_vector (vector_read f group (before.address + step) (preceding before step))
  pattern ← pattern_read type
  blocks ← blocks_read (is_intra type) (bits_of 6 pattern)
  done (record { address = before.address + step; type = type; quant = mquant; vector = vector; blocks = blocks })

-- what stands at an MBA place: a step, stuffing, or the group's end
pub data Mba : Type 0 where
  step : ℕ → Mba
  stuffed : Mba
  ended : Mba

-- "The first MBA is the address, later ones are added." Refusals 9, "address past 33", and 13, "start code at an MBA place in the last group"
abbrev pub mba_of : Bool → ℕ → ℕ → Judged Mba
mba_of last address m =
    pick (eqb m stuffing) (fine stuffed)
    (pick (eqb m start_code) (pick last (against AfterLast) (fine ended))
    (pick (ltb 33 (address + m)) (against AddressPast) (fine (step m))))

-- "At an MBA place the start code is a codeword too; in the last group, no bits left there ends the picture."
unfoldable pub mba : {P : Places} → Bool → ℕ → ReaderIn P Mba
mba true address = or_end ended (judged_read (word table1) (mba_of true address))
mba false address = judged_read (word table1) (mba_of false address)

-- the macroblocks from what stands at an MBA place on
abbrev pub macroblocks_after : {P : Places} → (Before → ReaderIn P (List Macroblock)) → Format → ℕ → Before → Mba → ReaderIn P (List Macroblock)
macroblocks_after more f group before (step s) = do
  x ← macroblock f group before s
  xs ← more (before_next x)
  done (x ∷ xs)
macroblocks_after more f group before stuffed = more before
macroblocks_after more f group before ended = done []

-- "A group ends at the next GBSC, the last one at bit N."
unfoldable pub macroblocks_from : {P : Places} → ℕ → Format → Bool → ℕ → Before → ReaderIn P (List Macroblock)
macroblocks_from zero f last group before = never
macroblocks_from (suc turns) f last group before =
    mba last before.address >>= macroblocks_after (macroblocks_from turns f last group) f group before

-- ---- groups
-- "Group: GBSC (16 bits), GN 4, GQUANT 5, GEI and spares as above, macroblocks." The first GBSC is read by `picture`, each later one at an MBA place. Refusal 6: "GN not the next one"
unfoldable pub group_head : {P : Places} → ℕ → ReaderIn P ℕ
group_head number = do
  gn ← expect 4 number OtherGroup
  gquant ← quantiser
  dropped ← spares
  done gquant

unfoldable pub group : {P : Places} → Format → Bool → ℕ → ReaderIn P Group
group f last number = do
  gquant ← group_head number
  macroblocks ← loop (λ turns. macroblocks_from turns f last number at_start)
  done (record { gquant = gquant; macroblocks = macroblocks })

abbrev pub none : {A : Type 0} → List A → Bool
none [] = true
none (x ∷ xs) = false

-- "Groups follow, all of them, in order"
unfoldable pub groups_read : {P : Places} → Format → List ℕ → ReaderIn P (List Group)
groups_read f [] = done []
groups_read f (number ∷ numbers) = do
  x ← group f (none numbers) number
  xs ← groups_read f numbers
  done (x ∷ xs)

-- ---- the picture
-- "PTYPE bit 4: 0 QCIF, 1 CIF; bit 5 is 0 for still images. Bit 6 is ignored by the reader". Refusal 5: "other format than opened, or still image"
abbrev pub ptype_of : Format → ℕ → Judged ℕ
ptype_of f x = pick (both (eqb (x / 4 % 2) (format_bit f)) (eqb (x / 2 % 2) 1)) (fine (x / 8)) (against OtherFormat)

-- TR, and PTYPE bits 1 to 3
pub record Header : Type 0 where
  pub tr : ℕ
  pub ptype : ℕ

-- "Picture: PSC (20 bits, 0000 0000 0000 0001 0000), TR 5, PTYPE 6, PEI .." and the first GBSC. Refusal 4: "PSC or GBSC expected and not there"
unfoldable pub header : {P : Places} → Format → ReaderIn P Header
header f = do
  psc ← expect 20 0b00000000000000010000 NoStartCode
  tr ← field 5
  ptype ← judged_read (field 6) (ptype_of f)
  dropped ← spares
  gbsc ← expect 16 0b0000000000000001 NoStartCode
  done (record { tr = tr; ptype = ptype })

unfoldable pub picture : {P : Places} → Format → ReaderIn P Picture
picture f = do
  head ← header f
  groups ← groups_read f (group_numbers f)
  done (record { tr = head.tr; ptype = head.ptype; groups = groups })

-- "A picture is a lent slice and a count of N bits ..; the picture is exactly those bits." Refusal 2: "N above 8 times the slice, or above the format's limit". From a place before all bits
abbrev pub reading_from : {P : Places} → PlaceIn P → Format → List ℕ → ℕ → ReadIn P Picture
reading_from {P} start f bytes n =
    pick (either (ltb (8 * length bytes) n) (ltb (limit (size_of f)) n)) (refused (stop_in P (refusal Count 0) start)) (picture f (source bytes n) start)

unfoldable pub reading : Format → List ℕ → ℕ → Read Picture
reading f bytes n = reading_from {P = plain} 0 f bytes n

-- ---- document 02, T-13: "the list of reads that the rules give for those bits, also up to a refusal"
unfoldable pub reading_listed : Format → List ℕ → ℕ → ReadIn listed Picture
reading_listed f bytes n = reading_from unread_place f bytes n

abbrev pub read_widths : Format → List ℕ → ℕ → List ℕ
read_widths f bytes n = widths_in (reading_listed f bytes n)
