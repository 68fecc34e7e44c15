-- Writing: from a picture to its bits, layer by layer. Document 01: "The writer uses no stuffing, no spares, and a table code wherever Table 5 has one."
-- The bits of a picture that is not valid mean nothing. Assumes nothing.
use Rattle.std.specs.Prelude.{ℕ, ◌+◌, ◌-◌, ◌*◌, ◌%◌, Bool, List, [], ◌∷◌, ◌++◌, ℤ, pos, nat_abs, ◌+ℤ◌, ◌-ℤ◌}
use Rattle.laws.specs.Choice.{pick}
use Rattle.bits.specs.Bits.{Bit, bits_of}
use Rattle.bits.specs.Code.{word_of}
use Rattle.bits.specs.Write.{bits_if}
use Rattle.h261_words.specs.Tables.{table1, table2, table3, table4, end_of_block, first_table5, later_table5}
use Rattle.h261_words.specs.Words.{is_intra, is_mc, has_mquant, has_cbp, tcoeff_of}
use Rattle.h261_groups.specs.Format.{format_bit, group_numbers}
use Rattle.layout.specs.Value.{Vector, Block, Macroblock, Group}
use Rattle.layout.specs.Flat.{Flat}
use Rattle.layout.specs.Pattern.{pattern_of}
use Rattle.h261_description.specs.Vector.{Before, at_start, preceding}
use Rattle.h261_description.specs.Value.{Picture, before_next, picture_in}
use Rattle.h261_groups.specs.declared.Format.{Format}

-- ---- blocks
unfoldable pub coefficients_of : Block → List Bit
coefficients_of [] = word_of later_table5 end_of_block
coefficients_of (c ∷ cs) = tcoeff_of later_table5 c ++ coefficients_of cs

-- the DC code in 8 bits, or the first coefficient; a block with none isn't sent
abbrev pub block_of : Bool → Block → List Bit
block_of intra [] = []
block_of intra (c ∷ cs) = pick intra (bits_of 8 c.code) (tcoeff_of first_table5 c) ++ coefficients_of cs

unfoldable pub blocks_of : Bool → List Block → List Bit
blocks_of intra [] = []
blocks_of intra (b ∷ bs) = block_of intra b ++ blocks_of intra bs

-- ---- vectors: Table 3 holds the difference modulo 32, from -16 on
abbrev pub component_bits : ℤ → ℤ → List Bit
component_bits preceding z = word_of table3 (nat_abs ((z -ℤ preceding) +ℤ pos 48) % 32)

abbrev pub vector_bits : Vector → Vector → List Bit
vector_bits preceding v = component_bits preceding.horizontal v.horizontal ++ component_bits preceding.vertical v.vertical

-- ---- macroblocks
unfoldable pub macroblock_of : Before → Macroblock → List Bit
macroblock_of before m =
    let step = m.address - before.address in
    word_of table1 step
    ++ (word_of table2 m.type
    ++ (bits_if (has_mquant m.type) (bits_of 5 m.quant)
    ++ (bits_if (is_mc m.type) (vector_bits (preceding before step) m.vector)
    ++ (bits_if (has_cbp m.type) (word_of table4 (pattern_of m.blocks))
    ++ blocks_of (is_intra m.type) m.blocks))))

unfoldable pub macroblocks_of : Before → List Macroblock → List Bit
macroblocks_of before [] = []
macroblocks_of before (m ∷ ms) = macroblock_of before m ++ macroblocks_of (before_next m) ms

-- ---- groups: GBSC, GN, GQUANT, GEI 0
unfoldable pub group_of : ℕ → Group → List Bit
group_of number g =
    bits_of 16 0b0000000000000001 ++ (bits_of 4 number ++ (bits_of 5 g.gquant ++ (bits_of 1 0 ++ macroblocks_of at_start g.macroblocks)))

unfoldable pub groups_of : List ℕ → List Group → List Bit
groups_of [] gs = []
groups_of (number ∷ numbers) [] = []
groups_of (number ∷ numbers) (g ∷ gs) = group_of number g ++ groups_of numbers gs

-- ---- the picture: PSC, TR, PTYPE ("Bit 6 is .. written as 1"; bit 5 is 1, no still image), PEI 0
unfoldable pub picture_of : Format → Picture → List Bit
picture_of f p =
    bits_of 20 0b00000000000000010000
    ++ (bits_of 5 p.tr
    ++ (bits_of 6 (p.ptype * 8 + format_bit f * 4 + 0b11)
    ++ (bits_of 1 0 ++ groups_of (group_numbers f) p.groups)))

-- the bits of the picture that a description describes
unfoldable pub picture_bits : Format → Flat → List Bit
picture_bits f d = picture_of f (picture_in d)
