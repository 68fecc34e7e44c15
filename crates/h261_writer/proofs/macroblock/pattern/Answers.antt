-- `macroblock::pattern` meets its contract: by whether the type has CBP, which is then 1 to 63.
use mathlib.Core.Path.{◌≡◌, sym, ap, ◌∙◌}
use mathlib.Core.Bool.{true}
use Rattle.bits.specs.Code.{word_of}
use Rattle.bits.proofs.Appended.{wrote_as, left_out, sent_wrote}
use Rattle.h261_words.specs.Tables.{table4}
use Rattle.h261_words.specs.Words.{has_cbp}
use Rattle.bits.proofs.Codewords.{word_ready, word_wrote}
use Rattle.layout.specs.Flat.{gathers}
use Rattle.layout.specs.Pattern.{pattern_of}
use Rattle.h261_writer.proofs.MacroblockSteps.{pattern_word_asked, pattern_counts}
use Rattle.h261_writer.proofs.macroblock.pattern.Goals as goal
use Rattle.h261_writer.proofs.macroblock.pattern.Goals.{Then-has_cbp}

sent : (c : Then-has_cbp) → has_cbp c.args.kind ≡ true
sent c = sym c.has_cbp.ensures ∙ c.if-has_cbp.true

pub cbp_codeword-word-requires : goal.cbp_codeword-word-requires
cbp_codeword-word-requires c = pattern_word_asked c.requires (sent (goal.at.cbp_codeword-word-requires c).Then-has_cbp) c.pattern.ensures

pub append-requires : goal.append-requires
append-requires c =
    word_ready c.cbp_codeword-word.ensures (pattern_counts c.requires (sent (goal.at.append-requires c).Then-has_cbp) c.pattern.ensures)

pub returns-then-has_cbp : goal.returns-then-has_cbp
returns-then-has_cbp c =
    sent_wrote _ (sent (goal.at.returns-then-has_cbp c).Then-has_cbp) (wrote_as (word_wrote c.cbp_codeword-word.ensures c.append.ensures) (ap (word_of table4) c.pattern.ensures))

pub returns : goal.returns
returns c = left_out (word_of table4 (pattern_of (gathers 6 c.args.levels.now))) _ (sym c.has_cbp.ensures ∙ c.if-has_cbp.false)
