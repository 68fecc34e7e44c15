-- `h261_render::render` meets its contract: each turn of its loop is one macroblock more, and the last one makes the picture. Assumes nothing.
use mathlib.Core.Path.{refl, sym, ◌∙◌}
use native.Mathlib.Omega.{arith}
use borrow.Author.Rules.{rules}
use Rattle.layout.specs.Flat.{flat}
use Rattle.h261_description.proofs.ValidAt.{quantiser_kept}
use Rattle.samples.proofs.Rendered.{drawn_none, drawn_content, drawn_all}
use Rattle.h261_render.specs.Sample.{contents_of, rendered}
use Rattle.h261_render.proofs.Picture.{order, content_there, not_last}
use Rattle.h261_render.proofs.render.Goals as goal

pub loop-n-init : goal.loop-n-init
loop-n-init c = (search rules, λ e. absurd (e refl), drawn_none c.requires.store)

pub turn-quantiser-requires : goal.turn-quantiser-requires
turn-quantiser-requires c =
    record {
      picture = record { fine = c.requires.fine; reference = c.requires.reference; store = c.loop-n.invariant.2.size };
      number = omega (arith, c.macroblock_count-count.ensures);
      before = c.loop-n.invariant.1;
    }

pub loop-n-preserved : goal.loop-n-preserved
loop-n-preserved c =
    let format = c.args.format in
    let d = flat c.args.head.now c.args.macroblocks.now c.args.levels.now in
    let reference = c.args.reference.now in
    let l = c.loop-n in (
      search rules,
      λ e. c.turn-quantiser.ensures.quantiser ∙ sym (quantiser_kept d l.n (not_last l.n e)),
      drawn_content (contents_of format d reference) reference (order format) l.invariant.2 (content_there format d reference l.n c.turn-quantiser.ensures.drawn),
    )

pub returns : goal.returns
unfolding rendered
returns c =
    let l = c.loop-n in
    let format = c.args.format in
    let d = flat c.args.head.now c.args.macroblocks.now c.args.levels.now in
    let reference = c.args.reference.now in
    drawn_all (contents_of format d reference) reference (order format) (omega (arith, c.macroblock_count-count.ensures)) l.invariant.2
