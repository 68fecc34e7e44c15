-- `macroblock::typed` meets its contract: by the picture's type; an INTER picture has COD before MCBPC.
use Rattle.bits.proofs.Codewords.{word_ready, word_wrote}
use Rattle.bits.proofs.Appended.{fixed_fits}
use Rattle.h263_writer.proofs.MacroblockSteps.{intra_kind, intra_counts, intra_wrote, inter_kind, cod_counts, inter_counts, inter_wrote}
use Rattle.h263_writer.proofs.macroblock.typed.Goals as goal

pub mcbpc_codeword-requires : goal.mcbpc_codeword-requires
mcbpc_codeword-requires c =
    intra_kind c.requires c.if-intra.true

pub append-requires : goal.append-requires
append-requires c =
    word_ready c.mcbpc_codeword.ensures (intra_counts c.requires c.if-intra.true)

pub returns-then-intra : goal.returns-then-intra
returns-then-intra c =
    intra_wrote c.requires c.if-intra.true (word_wrote c.mcbpc_codeword.ensures c.append.ensures)

pub append-after-requires : goal.append-after-requires
append-after-requires c =
    (fixed_fits 1 0 tt tt tt, cod_counts c.requires c.if-intra.false)

pub mcbpc_codeword-requires-2 : goal.mcbpc_codeword-requires-2
mcbpc_codeword-requires-2 c =
    inter_kind c.requires c.if-intra.false

pub append-requires-2 : goal.append-requires-2
append-requires-2 c =
    word_ready c.mcbpc_codeword-2.ensures (inter_counts c.requires c.if-intra.false c.append-after.ensures)

pub returns : goal.returns
returns c =
    inter_wrote c.requires c.if-intra.false c.append-after.ensures (word_wrote c.mcbpc_codeword-2.ensures c.append-2.ensures)
