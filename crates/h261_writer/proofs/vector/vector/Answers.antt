-- `vector::vector` meets its contract: by the type, and by whether the preceding vector counts as zero.
use mathlib.Core.Path.{◌≡◌, sym, ◌∙◌}
use mathlib.Core.Bool.{true}
use borrow.Author.Tests.{not-true, not-false}
use Rattle.h261_words.specs.Words.{is_mc}
use Rattle.layout.specs.Flat.{byte_vector}
use Rattle.h261_description.specs.Vector.{preceding}
use Rattle.h261_writer.specs.Write.{vector_bits}
use Rattle.h261_writer.specs.Sound.{before_in}
use Rattle.bits.proofs.Appended.{left_out}
use Rattle.h261_writer.proofs.MacroblockSteps.{zero_asked, own_asked, zero_wrote, own_wrote}
use Rattle.h261_writer.proofs.vector.vector.Goals as goal
use Rattle.h261_writer.proofs.vector.vector.Goals.{Else-not-is_mc}

pointed : (c : Else-not-is_mc) → is_mc c.args.kind ≡ true
pointed c = sym c.is_mc.ensures ∙ not-false _ c.if-not-is_mc.false-raw

pub returns-then-not-is_mc : goal.returns-then-not-is_mc
returns-then-not-is_mc c =
    let a = c.args in
    left_out (vector_bits (preceding (before_in a.last a.horizontal a.vertical) a.step) (byte_vector a.across a.down)) _ (sym c.is_mc.ensures ∙ not-true _ c.if-not-is_mc.true-raw)

pub components-requires : goal.components-requires
components-requires c = zero_asked c.requires (pointed (goal.at.components-requires c).Else-not-is_mc) (sym c.restarts.ensures ∙ c.if-restarts.true)

pub returns-then-restarts : goal.returns-then-restarts
returns-then-restarts c =
    zero_wrote c.requires (pointed (goal.at.returns-then-restarts c).Else-not-is_mc) (sym c.restarts.ensures ∙ c.if-restarts.true) c.components.ensures

pub components-requires-2 : goal.components-requires-2
components-requires-2 c = own_asked c.requires (pointed (goal.at.components-requires-2 c).Else-not-is_mc) (sym c.restarts.ensures ∙ c.if-restarts.false)

pub returns : goal.returns
returns c =
    own_wrote c.requires (pointed (goal.at.returns c).Else-not-is_mc) (sym c.restarts.ensures ∙ c.if-restarts.false) c.components-2.ensures
