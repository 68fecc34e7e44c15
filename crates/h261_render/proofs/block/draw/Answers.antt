-- `h261_render::block::draw` meets its contract: by the prediction, over which what is sent is drawn. Assumes nothing.
use mathlib.Core.Path.{refl, ◌∙◌}
use Rattle.quantiser.specs.Level.{bytes_from}
use Rattle.samples.proofs.Added.{fits_still, sample_alone}
use Rattle.samples.proofs.Bounds.{samples_small}
use Rattle.h261_render.specs.declared.Prediction.TheVariants.{Inter, Filtered}
use Rattle.h261_render.proofs.Predicted.{drawn_alone, drawn_over}
use Rattle.h261_render.proofs.block.draw.Goals as goal

pub draw-requires-in-Inter : goal.draw-requires-in-Inter
draw-requires-in-Inter c =
    record { target = fits_still c.copy.ensures.size c.requires.target; coded = c.requires.coded }

pub put-requires : goal.put-requires
put-requires c =
    (c.requires.target, samples_small c.filtered-block.result c.filtered-block.ensures.samples)

pub draw-requires-in-Filtered : goal.draw-requires-in-Filtered
draw-requires-in-Filtered c =
    record { target = fits_still c.put.ensures.size c.requires.target; coded = c.requires.coded }

pub returns-in-Intra : goal.returns-in-Intra
returns-in-Intra c =
    let a = c.args in
    drawn_alone a.reference.now a.from (bytes_from a.levels.now a.at) a.quantiser c.in-Intra.is c.draw.ensures

pub returns-in-Inter : goal.returns-in-Inter
returns-in-Inter c =
    let a = c.args in
    drawn_over Inter a.reference.now a.from (bytes_from a.levels.now a.at) a.quantiser c.in-Inter.is refl (λ i j l m. refl) c.copy.ensures
    c.draw-in-Inter.ensures

pub returns-in-Filtered : goal.returns-in-Filtered
returns-in-Filtered c =
    let a = c.args in
    let block = c.filtered-block.ensures in
    drawn_over Filtered a.reference.now a.from (bytes_from a.levels.now a.at) a.quantiser c.in-Filtered.is refl
    (λ i j l m. sample_alone (block.samples i j) ∙ block.is.cells i j l m) c.put.ensures c.draw-in-Filtered.ensures
