-- `h261_words::mtype_codeword` meets its contract: the entry by the meaning spells the codeword.
use borrow.Author.Rules.{rules}
use Rattle.h261_words.specs.Tables.{table2}
use Rattle.h261_words.specs.Lookup.{mtype_words_at}
use Rattle.h261_words.proofs.Back.{has_mtype}
use Rattle.bits.proofs.Codewords.{entry_writes}
use Rattle.h261_words.proofs.mtype_codeword.Goals as goal

pub returns : goal.returns
returns c =
    entry_writes c.args.tables.now mtype_words_at 11 table2.entries c.requires.tables.mtype_words c.args.kind (search rules) (has_mtype _ c.requires.some c.requires.known) c.spelt.ensures
