-- `macroblock::quantiser` meets its contract: by whether the type has DQUANT.
use mathlib.Core.Path.{sym, ◌∙◌}
use Rattle.bits.specs.Bits.{bits_of}
use Rattle.bits.proofs.Appended.{left_out, sent_counts, sent_wrote}
use Rattle.h263_words.specs.Words.{dquant_field}
use Rattle.h263_writer.proofs.MacroblockSteps.{dquant_fits, field_counts, field_wrote}
use Rattle.h263_writer.proofs.macroblock.quantiser.Goals as goal

pub append-requires : goal.append-requires
append-requires c =
    field_counts c.dquant_field.ensures (dquant_fits c.args.kind c.args.dquant c.ranges.dquant.fits (sym c.has_dquant.ensures ∙ c.if-has_dquant.true) c.requires.0) (sent_counts _ (sym c.has_dquant.ensures ∙ c.if-has_dquant.true) c.requires.1)

pub returns-then-has_dquant : goal.returns-then-has_dquant
returns-then-has_dquant c =
    sent_wrote _ (sym c.has_dquant.ensures ∙ c.if-has_dquant.true) (field_wrote c.dquant_field.ensures c.append.ensures)

pub returns : goal.returns
returns c =
    left_out (bits_of 2 (dquant_field c.args.dquant)) _ (sym c.has_dquant.ensures ∙ c.if-has_dquant.false)
