-- `h261_words::tables` meets its contract: antt computes each test over the array.
use Rattle.laws.specs.Lists.{alike}
use Rattle.bits.specs.Code.{word_in, has_in}
use Rattle.bits.specs.Entries.{entries_from}
use Rattle.bits.specs.Part.{passes}
use Rattle.bits.specs.Settled.{settles}
use Rattle.bits.specs.Codewords.{spells}
use Rattle.h261_words.specs.Tables.{table1, table2, table3, table4, pairs, first_table5, later_table5}
use Rattle.h261_words.proofs.tables.Goals as goal

pub returns : goal.returns
unfolding table1 table2 table3 table4 pairs first_table5 later_table5 passes settles spells word_in has_in alike entries_from
returns c =
    record {
      mba = tt;
      mtype = tt;
      mvd = tt;
      cbp = tt;
      first = tt;
      later = tt;
      mba_words = tt;
      mtype_words = tt;
      mvd_words = tt;
      cbp_words = tt;
      pair_words = tt;
      mba_entries = tt;
      mtype_entries = tt;
      mvd_entries = tt;
      cbp_entries = tt;
    }
