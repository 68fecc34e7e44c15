-- `macroblock::macroblock` meets its contract: COD and MCBPC, CBPY, DQUANT, MVD and the blocks, each where the one before it ended.
use Prim.Native.Nat.{◌/◌}
use Rattle.bits.proofs.Appended.{first_part, second_part, third_part, fourth_part, fifth_part}
use Rattle.bits.proofs.Codewords.{word_ready, word_wrote}
use Rattle.h263_writer.proofs.MacroblockSteps.{pattern_asked, quarter_low, macroblock_parts, type_asked, vector_asked, blocks_asked, macroblock_whole, turned_low, pattern_counts, pattern_wrote}
use Rattle.h263_writer.proofs.macroblock.macroblock.Goals as goal

pub pattern-pattern-requires : goal.pattern-pattern-requires
pattern-pattern-requires c =
    pattern_asked c.requires c.is_intra-own.ensures

pub typed-coded-requires : goal.typed-coded-requires
typed-coded-requires c =
    type_asked c.requires c.is_intra-own.ensures c.pattern-pattern.ensures (first_part (macroblock_parts c.requires c.is_intra-own.ensures c.pattern-pattern.ensures))

pub turned-requires : goal.turned-requires
turned-requires c =
    quarter_low c.requires c.is_intra-own.ensures c.pattern-pattern.ensures

pub cbpy_codeword-requires : goal.cbpy_codeword-requires
cbpy_codeword-requires c =
    (c.requires.tables, turned_low c.is_intra-own.result (c.pattern-pattern.result / 4) (quarter_low c.requires c.is_intra-own.ensures c.pattern-pattern.ensures) c.turned.ensures)

pub append-patterned-requires : goal.append-patterned-requires
append-patterned-requires c =
    word_ready c.cbpy_codeword.ensures (pattern_counts c.turned.ensures (second_part (macroblock_parts c.requires c.is_intra-own.ensures c.pattern-pattern.ensures) c.typed-coded.ensures))

pub quantiser-quantised-requires : goal.quantiser-quantised-requires
quantiser-quantised-requires c =
    (c.requires.sound.quantised, third_part (macroblock_parts c.requires c.is_intra-own.ensures c.pattern-pattern.ensures) c.typed-coded.ensures (pattern_wrote c.turned.ensures (word_wrote c.cbpy_codeword.ensures c.append-patterned.ensures)))

pub vector-pointed-requires : goal.vector-pointed-requires
vector-pointed-requires c =
    vector_asked c.requires c.is_intra-own.ensures c.pattern-pattern.ensures (fourth_part (macroblock_parts c.requires c.is_intra-own.ensures c.pattern-pattern.ensures) c.typed-coded.ensures (pattern_wrote c.turned.ensures (word_wrote c.cbpy_codeword.ensures c.append-patterned.ensures)) c.quantiser-quantised.ensures)

pub blocks-requires : goal.blocks-requires
blocks-requires c =
    blocks_asked c.requires c.is_intra-own.ensures c.pattern-pattern.ensures (fifth_part (macroblock_parts c.requires c.is_intra-own.ensures c.pattern-pattern.ensures) c.typed-coded.ensures (pattern_wrote c.turned.ensures (word_wrote c.cbpy_codeword.ensures c.append-patterned.ensures)) c.quantiser-quantised.ensures c.vector-pointed.ensures)

pub returns : goal.returns
returns c =
    macroblock_whole c.requires c.is_intra-own.ensures c.pattern-pattern.ensures c.typed-coded.ensures (pattern_wrote c.turned.ensures (word_wrote c.cbpy_codeword.ensures c.append-patterned.ensures)) c.quantiser-quantised.ensures c.vector-pointed.ensures c.blocks-2.ensures
