-- `h263_words::mvd_codeword` meets its contract: the entry by the meaning spells the codeword.
use borrow.Author.Rules.{rules}
use Rattle.bits.proofs.Codewords.{entry_writes}
use Rattle.h263_words.specs.Tables.{mvd}
use Rattle.h263_words.specs.Lookup.{mvd_words_at}
use Rattle.h263_words.proofs.Back.{has-mvd}
use Rattle.h263_words.proofs.mvd_codeword.Goals as goal

pub returns : goal.returns
returns c =
    entry_writes c.args.tables.now mvd_words_at 64 mvd.entries c.requires.0.difference_words c.args.difference (search rules) (has-mvd _ c.requires.1) c.spelt.ensures
