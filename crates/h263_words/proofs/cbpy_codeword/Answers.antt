-- `h263_words::cbpy_codeword` meets its contract: the entry by the meaning spells the codeword.
use borrow.Author.Rules.{rules}
use Rattle.bits.proofs.Codewords.{entry_writes}
use Rattle.h263_words.specs.Tables.{cbpy}
use Rattle.h263_words.specs.Lookup.{cbpy_words_at}
use Rattle.h263_words.proofs.Back.{has-cbpy}
use Rattle.h263_words.proofs.cbpy_codeword.Goals as goal

pub returns : goal.returns
returns c =
    entry_writes c.args.tables.now cbpy_words_at 16 cbpy.entries c.requires.0.pattern_words c.args.pattern (search rules) (has-cbpy _ c.requires.1) c.spelt.ensures
