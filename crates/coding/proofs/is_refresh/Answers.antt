-- `coding::is_refresh` meets its contract: what its standard says; a valid description has its lengths, and nothing but what is looked at decides. Assumes nothing.
use mathlib.Core.Path.{ap, ◌∙◌}
use Rattle.layout.specs.Flat.{Flat, flat}
use Rattle.h261_description.proofs.Pictured.{valid_lists}
use Rattle.coding.specs.Coding.{Coding}
use Rattle.coding.proofs.ByKind.{coded_h261, coded_h263, is_valid}
use Rattle.h261_description.specs.Fields as D261
use Rattle.h263_description.specs.Fields as D263
use Rattle.coding.proofs.is_refresh.Goals as goal

pub is_refresh-requires : goal.is_refresh-requires
is_refresh-requires c =
    let d = flat c.args.head.now c.args.macroblocks.now c.args.levels.now in
    (valid_lists _ d (is_valid (coded_h261 c.in-H261.is) d c.requires)).macroblocks_length

pub returns-in-H261 : goal.returns-in-H261
unfolding D261.refresh
returns-in-H261 c =
    c.is_refresh.ensures ∙ ap (λ (x : Coding Flat). x.refresh (flat c.args.head.now c.args.macroblocks.now c.args.levels.now)) (coded_h261 c.in-H261.is)

pub returns-in-H263 : goal.returns-in-H263
unfolding D263.refresh
returns-in-H263 c =
    c.is_refresh-in-H263.ensures ∙ ap (λ (x : Coding Flat). x.refresh (flat c.args.head.now c.args.macroblocks.now c.args.levels.now)) (coded_h263 c.in-H263.is)
