-- `macroblock::macroblock` meets its contract: MBA, MTYPE, MQUANT, MVD, CBP and the blocks, each where the one before it ended.
use native.Mathlib.Omega.{arith}
use Rattle.bits.proofs.Appended.{first_part, second_part, third_part, fourth_part, fifth_part, sixth_part}
use Rattle.bits.proofs.Codewords.{word_ready, word_wrote}
use Rattle.h261_writer.proofs.MacroblockSteps.{macroblock_parts, address_asked, type_asked, vector_asked, pattern_asked, blocks_asked, macroblock_whole}
use Rattle.h261_writer.proofs.macroblock.macroblock.Goals as goal

pub mba_codeword-requires : goal.mba_codeword-requires
mba_codeword-requires c = address_asked c.requires

pub append-addressed-requires : goal.append-addressed-requires
append-addressed-requires c = word_ready c.mba_codeword.ensures (first_part (macroblock_parts c.requires))

pub mtype_codeword-requires : goal.mtype_codeword-requires
mtype_codeword-requires c = type_asked c.requires

pub append-typed-requires : goal.append-typed-requires
append-typed-requires c =
    word_ready c.mtype_codeword.ensures (second_part (macroblock_parts c.requires) (word_wrote c.mba_codeword.ensures c.append-addressed.ensures))

pub quantiser-quantised-requires : goal.quantiser-quantised-requires
quantiser-quantised-requires c =
    (c.requires.sound.quantised, third_part (macroblock_parts c.requires) (word_wrote c.mba_codeword.ensures c.append-addressed.ensures) (word_wrote c.mtype_codeword.ensures c.append-typed.ensures))

pub vector-pointed-requires : goal.vector-pointed-requires
vector-pointed-requires c =
    vector_asked c.requires (fourth_part (macroblock_parts c.requires) (word_wrote c.mba_codeword.ensures c.append-addressed.ensures) (word_wrote c.mtype_codeword.ensures c.append-typed.ensures) c.quantiser-quantised.ensures)

pub pattern-patterned-requires : goal.pattern-patterned-requires
pattern-patterned-requires c =
    pattern_asked c.requires (fifth_part (macroblock_parts c.requires) (word_wrote c.mba_codeword.ensures c.append-addressed.ensures) (word_wrote c.mtype_codeword.ensures c.append-typed.ensures) c.quantiser-quantised.ensures c.vector-pointed.ensures)

pub overflow_cast-kind-2 : goal.overflow_cast-kind-2
overflow_cast-kind-2 c = omega (arith, c.requires.sound.known)

pub blocks-requires : goal.blocks-requires
blocks-requires c =
    blocks_asked c.requires c.is_intra.ensures (sixth_part (macroblock_parts c.requires) (word_wrote c.mba_codeword.ensures c.append-addressed.ensures) (word_wrote c.mtype_codeword.ensures c.append-typed.ensures) c.quantiser-quantised.ensures c.vector-pointed.ensures c.pattern-patterned.ensures)

pub returns : goal.returns
returns c =
    macroblock_whole c.requires c.is_intra.ensures (word_wrote c.mba_codeword.ensures c.append-addressed.ensures) (word_wrote c.mtype_codeword.ensures c.append-typed.ensures) c.quantiser-quantised.ensures c.vector-pointed.ensures c.pattern-patterned.ensures c.blocks-2.ensures
