-- `h261_words::cbp_codeword` meets its contract: the entry by the meaning spells the codeword.
use borrow.Author.Rules.{rules}
use Rattle.h261_words.specs.Tables.{table4}
use Rattle.h261_words.specs.Lookup.{cbp_words_at}
use Rattle.h261_words.proofs.Back.{has_cbp}
use Rattle.bits.proofs.Codewords.{entry_writes}
use Rattle.h261_words.proofs.cbp_codeword.Goals as goal

pub returns : goal.returns
returns c =
    entry_writes c.args.tables.now cbp_words_at 64 table4.entries c.requires.tables.cbp_words c.args.pattern (search rules) (has_cbp _ c.requires.some c.requires.known) c.spelt.ensures
