-- `macroblock::quantiser` meets its contract: by whether the type has MQUANT.
use mathlib.Core.Path.{sym, ◌∙◌}
use Rattle.bits.specs.Bits.{bits_of}
use Rattle.bits.proofs.Appended.{left_out, sent_counts, sent_wrote}
use Rattle.h261_writer.proofs.MacroblockSteps.{quantiser_fits}
use Rattle.h261_writer.proofs.macroblock.quantiser.Goals as goal

pub append-requires : goal.append-requires
append-requires c =
    (quantiser_fits c.args.kind c.args.mquant c.requires.0, sent_counts _ (sym c.has_mquant.ensures ∙ c.if-has_mquant.true) c.requires.1)

pub returns-then-has_mquant : goal.returns-then-has_mquant
returns-then-has_mquant c = sent_wrote _ (sym c.has_mquant.ensures ∙ c.if-has_mquant.true) c.append.ensures

pub returns : goal.returns
returns c = left_out (bits_of 5 c.args.mquant) _ (sym c.has_mquant.ensures ∙ c.if-has_mquant.false)
