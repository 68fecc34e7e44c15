-- `h261_words::mba_codeword` meets its contract: the entry by the meaning spells the codeword.
use borrow.Author.Rules.{rules}
use Rattle.h261_words.specs.Tables.{table1}
use Rattle.h261_words.specs.Lookup.{mba_words_at}
use Rattle.h261_words.proofs.Back.{has_mba}
use Rattle.bits.proofs.Codewords.{entry_writes}
use Rattle.h261_words.proofs.mba_codeword.Goals as goal

pub returns : goal.returns
returns c =
    entry_writes c.args.tables.now mba_words_at 36 table1.entries c.requires.tables.mba_words c.args.step (search rules) (has_mba _ c.requires.some c.requires.known) c.spelt.ensures
