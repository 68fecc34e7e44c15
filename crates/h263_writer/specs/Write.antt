-- Writing: from a picture to its bits, layer by layer. "The writer writes bits 1, 2 as 10, 6 to 8 as the format, 9 as the type, 10 to 13, CPM, PEI and GFID as 0, no GSTUF and no stuffing"; document 01: "and a table code wherever" the table has one.
-- The bits of a picture that is not valid mean nothing. Assumes nothing.
use Rattle.std.specs.Prelude.{ℕ, zero, suc, ◌+◌, ◌*◌, ◌/◌, ◌%◌, ◌^◌, Bool, true, false, List, [], ◌∷◌, ◌++◌, eqb, length, ℤ, pos, nat_abs, ◌+ℤ◌, ◌-ℤ◌}
use Rattle.laws.specs.Choice.{pick}
use Rattle.bits.specs.Bits.{Bit, bits_of}
use Rattle.bits.specs.Code.{word_of}
use Rattle.bits.specs.Write.{bits_if}
use Rattle.size.specs.declared.Size.{Size}
use Rattle.size.specs.Place.{macroblocks_across}
use Rattle.layout.specs.Value.{Vector, zero_vector, Block, Macroblock, Group}
use Rattle.layout.specs.Pattern.{presence_of}
use Rattle.layout.specs.Flat.{Flat}
use Rattle.h263_words.specs.Tables.{kind, mcbpc_intra, mcbpc_inter, cbpy, mvd}
use Rattle.h263_words.specs.Words.{is_intra, is_inter, has_dquant, turned, dquant_field, tcoef_of}
use Rattle.h263_description.specs.Vector.{vectors_of, predictor}
use Rattle.h263_description.specs.Value.{Picture, group_numbers, format_code, picture_in}
use Rattle.h263_description.specs.Fields.{stands, is_intra_type}

-- ---- blocks
-- LAST is 1 on the last
unfoldable pub events_of : Block → List Bit
events_of [] = []
events_of (c ∷ []) = tcoef_of 1 c
events_of (c ∷ d ∷ cs) = tcoef_of 0 c ++ events_of (d ∷ cs)

-- what a block has after its DC code, if it is INTRA
abbrev pub events_in : Bool → Block → Block
events_in true [] = []
events_in true (c ∷ cs) = cs
events_in false cs = cs

-- the DC code in 8 bits
abbrev pub dc_of : Bool → Block → List Bit
dc_of true [] = []
dc_of true (c ∷ cs) = bits_of 8 c.code
dc_of false cs = []

abbrev pub block_of : Bool → Block → List Bit
block_of intra b = dc_of intra b ++ events_of (events_in intra b)

unfoldable pub blocks_of : Bool → List Block → List Bit
blocks_of intra [] = []
blocks_of intra (b ∷ bs) = block_of intra b ++ blocks_of intra bs

-- "the pattern is always the levels'": a bit for each block, most significant first
unfoldable pub pattern_of : Bool → List Block → ℕ
pattern_of intra [] = 0
pattern_of intra (b ∷ bs) = presence_of (events_in intra b) * 2 ^ length bs + pattern_of intra bs

-- ---- vectors: the table holds the difference modulo 64, from -32 on
abbrev pub component_bits : ℤ → ℤ → List Bit
component_bits predicted z = word_of mvd (nat_abs ((z -ℤ predicted) +ℤ pos 96) % 64)

abbrev pub vector_bits : Vector → Vector → List Bit
vector_bits predicted v = component_bits predicted.horizontal v.horizontal ++ component_bits predicted.vertical v.vertical

-- ---- macroblocks: COD 0 in INTER pictures, MCBPC, CBPY, DQUANT, MVD, blocks. The picture's type, then the macroblock's
abbrev pub mcbpc_of : Bool → ℕ → ℕ → List Bit
mcbpc_of true type pattern = word_of mcbpc_intra (kind type (pattern % 4))
mcbpc_of false type pattern = bits_of 1 0 ++ word_of mcbpc_inter (kind type (pattern % 4))

unfoldable pub macroblock_of : Bool → Vector → Macroblock → List Bit
macroblock_of intra predicted m =
    let own = is_intra m.type in
    let pattern = pattern_of own m.blocks in
    mcbpc_of intra m.type pattern
    ++ (word_of cbpy (turned own (pattern / 4))
    ++ (bits_if (has_dquant m.type) (bits_of 2 (dquant_field m.quant))
    ++ (bits_if (is_inter m.type) (vector_bits predicted m.vector) ++ blocks_of own m.blocks)))

-- ---- groups
-- the vector at an address, zero where the macroblock is unsent; and the macroblocks after it
abbrev pub vector_at_head : ℕ → List Macroblock → Vector
vector_at_head address [] = zero_vector
vector_at_head address (m ∷ ms) = pick (eqb m.address address) m.vector zero_vector

abbrev pub after_head : ℕ → List Macroblock → List Macroblock
after_head address [] = []
after_head address (m ∷ ms) = pick (eqb m.address address) ms (m ∷ ms)

-- COD 1 where it is unsent
abbrev pub bits_at_head : Bool → Vector → ℕ → List Macroblock → List Bit
bits_at_head intra predicted address [] = bits_of 1 1
bits_at_head intra predicted address (m ∷ ms) = pick (eqb m.address address) (macroblock_of intra predicted m) (bits_of 1 1)

-- k macroblocks of a group, from an address on, after macroblocks with these vectors
unfoldable pub row_of : ℕ → ℕ → Bool → ℕ → ℕ → List Vector → List Macroblock → List Bit
row_of zero across intra gquant address vectors ms = []
row_of (suc k) across intra gquant address vectors ms =
    bits_at_head intra (predictor across (stands gquant) (vectors_of vectors) (length vectors)) address ms
    ++ row_of k across intra gquant (address + 1) (vectors ++ vector_at_head address ms ∷ []) (after_head address ms)

-- and the vectors then
unfoldable pub row_vectors : ℕ → ℕ → List Vector → List Macroblock → List Vector
row_vectors zero address vectors ms = vectors
row_vectors (suc k) address vectors ms = row_vectors k (address + 1) (vectors ++ vector_at_head address ms ∷ []) (after_head address ms)

-- GBSC, GN, GFID 0, GQUANT, where the header stands
abbrev pub head_of : ℕ → ℕ → List Bit
head_of number gquant = bits_if (stands gquant) (bits_of 17 1 ++ (bits_of 5 number ++ (bits_of 2 0 ++ bits_of 5 gquant)))

unfoldable pub groups_of : ℕ → Bool → List ℕ → List Vector → List Group → List Bit
groups_of across intra [] vectors gs = []
groups_of across intra (number ∷ numbers) vectors [] = []
groups_of across intra (number ∷ numbers) vectors (g ∷ gs) =
    (head_of number g.gquant ++ row_of across across intra g.gquant 1 vectors g.macroblocks)
    ++ groups_of across intra numbers (row_vectors across 1 vectors g.macroblocks) gs

-- ---- the picture: PSC, TR, PTYPE, PQUANT, CPM 0, PEI 0
abbrev pub ptype_of : Size → Picture → ℕ
ptype_of size p = 2 * 2048 + p.ptype * 256 + format_code size * 32 + p.type * 16

unfoldable pub picture_of : Size → Picture → List Bit
picture_of size p =
    bits_of 22 0b0000000000000000100000
    ++ (bits_of 8 p.tr
    ++ (bits_of 13 (ptype_of size p)
    ++ (bits_of 5 p.pquant
    ++ (bits_of 1 0
    ++ (bits_of 1 0 ++ groups_of (macroblocks_across size) (is_intra_type p.type) (group_numbers size) [] p.groups)))))

-- the bits of the picture that a description describes
unfoldable pub picture_bits : Size → Flat → List Bit
picture_bits size d = picture_of size (picture_in size d)
