-- `vector::vector` meets its contract: by the type, and then against what predicts it.
use mathlib.Core.Path.{sym, ◌∙◌}
use borrow.Author.Tests.{not-true, not-false}
use Rattle.bits.proofs.Appended.{left_out}
use Rattle.h263_description.specs.Vector.{predictor}
use Rattle.h263_description.specs.Kept.{vectors_in}
use Rattle.h263_writer.specs.Write.{vector_bits}
use Rattle.h263_writer.proofs.MacroblockSteps.{components_asked, vector_wrote}
use Rattle.h263_writer.proofs.vector.vector.Goals as goal

pub returns-then-not-is_inter : goal.returns-then-not-is_inter
returns-then-not-is_inter c =
    left_out (vector_bits (predictor c.args.across c.args.headed (vectors_in c.args.macroblocks.now) c.args.n) (vectors_in c.args.macroblocks.now c.args.n)) _ (sym c.is_inter.ensures ∙ not-true _ c.if-not-is_inter.true-raw)

pub components-requires : goal.components-requires
components-requires c =
    components_asked c.requires (sym c.is_inter.ensures ∙ not-false _ c.if-not-is_inter.false-raw) c.predictor-from.ensures

pub returns : goal.returns
returns c =
    vector_wrote c.requires (sym c.is_inter.ensures ∙ not-false _ c.if-not-is_inter.false-raw) c.predictor-from.ensures c.components.ensures
