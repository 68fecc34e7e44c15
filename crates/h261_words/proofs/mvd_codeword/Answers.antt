-- `h261_words::mvd_codeword` meets its contract: the entry by the meaning spells the codeword.
use borrow.Author.Rules.{rules}
use Rattle.h261_words.specs.Tables.{table3}
use Rattle.h261_words.specs.Lookup.{mvd_words_at}
use Rattle.h261_words.proofs.Back.{has-mvd}
use Rattle.bits.proofs.Codewords.{entry_writes}
use Rattle.h261_words.proofs.mvd_codeword.Goals as goal

pub returns : goal.returns
returns c =
    entry_writes c.args.tables.now mvd_words_at 32 table3.entries c.requires.0.mvd_words c.args.difference (search rules) (has-mvd _ c.requires.1) c.spelt.ensures
