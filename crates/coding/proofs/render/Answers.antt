-- `coding::render` meets its contract: what its standard draws. Assumes nothing.
use mathlib.Core.Path.{ap, ◌∙◌}
use Rattle.layout.specs.Flat.{Flat, flat}
use Rattle.coding.specs.Coding.{Coding}
use Rattle.coding.proofs.ByKind.{coded_h261, coded_h263, drawable_h261, drawable_h263}
use Rattle.coding.proofs.render.Goals as goal

pub render-requires : goal.render-requires
render-requires c =
    drawable_h261 c.in-H261.is (flat c.args.head.now c.args.macroblocks.now c.args.levels.now) c.args.reference.now c.args.store.now c.requires

pub render-requires-in-H263 : goal.render-requires-in-H263
render-requires-in-H263 c =
    drawable_h263 c.in-H263.is (flat c.args.head.now c.args.macroblocks.now c.args.levels.now) c.args.reference.now c.args.store.now c.requires

pub returns-in-H261 : goal.returns-in-H261
returns-in-H261 c =
    c.render.ensures ∙ ap (λ (x : Coding Flat). x.render (flat c.args.head.now c.args.macroblocks.now c.args.levels.now) c.args.reference.now) (coded_h261 c.in-H261.is)

pub returns-in-H263 : goal.returns-in-H263
returns-in-H263 c =
    c.render-in-H263.ensures ∙ ap (λ (x : Coding Flat). x.render (flat c.args.head.now c.args.macroblocks.now c.args.levels.now) c.args.reference.now) (coded_h263 c.in-H263.is)
