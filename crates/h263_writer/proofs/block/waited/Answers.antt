-- `block::waited` meets its contract: by whether a coefficient waits.
use Rattle.bits.proofs.Codewords.{word_ready, word_wrote}
use Rattle.h263_writer.proofs.BlockTurn.{waited_none, waiting_asked, waiting_counts, waited_one}
use Rattle.h263_writer.proofs.block.waited.Goals as goal

pub returns-then-waiting-eq0 : goal.returns-then-waiting-eq0
returns-then-waiting-eq0 c = waited_none c.requires c.if-waiting-eq0.true

pub event_codeword-requires : goal.event_codeword-requires
event_codeword-requires c =
    waiting_asked c.requires c.if-waiting-eq0.false

pub append-requires : goal.append-requires
append-requires c =
    word_ready c.event_codeword.ensures (waiting_counts c.requires c.if-waiting-eq0.false)

pub returns : goal.returns
returns c =
    waited_one c.requires c.if-waiting-eq0.false (word_wrote c.event_codeword.ensures c.append.ensures)
