-- `h263_words::tables` meets its contract: antt computes each test over the array.
use Rattle.bits.specs.Code.{word_in, has_in}
use Rattle.bits.specs.Part.{passes}
use Rattle.bits.specs.Settled.{settles}
use Rattle.bits.specs.Codewords.{spells}
use Rattle.h263_words.specs.Tables.{mcbpc_intra, mcbpc_inter, cbpy, mvd, tcoef}
use Rattle.h263_words.proofs.tables.Goals as goal

pub returns : goal.returns
unfolding mcbpc_intra mcbpc_inter cbpy mvd tcoef passes settles spells word_in has_in
returns c =
    record {
      intra = tt;
      inter = tt;
      patterns = tt;
      differences = tt;
      events = tt;
      intra_words = tt;
      inter_words = tt;
      pattern_words = tt;
      difference_words = tt;
      event_words = tt;
    }
