-- `h263_render::render` meets its contract: each turn of its loop is one macroblock more, and the last one makes the picture. Assumes nothing.
use mathlib.Core.Path.{◌≡◌, refl, sym, ap, ◌∙◌}
use Prim.Native.Nat.{◌*◌}
use native.Mathlib.Numerals.{add-one}
use native.Mathlib.Omega.{arith}
use borrow.Author.Rules.{rules}
use Rattle.size.specs.Place.{macroblocks_across, macroblocks_down}
use Rattle.samples.proofs.Rendered.{drawn_none, drawn_content, drawn_all}
use Rattle.layout.specs.Flat.{Flat, flat}
use Rattle.h263_description.specs.Fields.{quantiser_before}
use Rattle.h263_description.proofs.ValidAt.{head_length_lem}
use Rattle.h263_render.specs.Sample.{contents_of, rendered}
use Rattle.h263_render.proofs.Picture.{order, content_there, count_small}
use Rattle.h263_render.proofs.render.Goals as goal
use Rattle.h263_render.proofs.render.Goals.{After-across, After-loop-n, After-shared_slice_known-5-1-unread, After-slice_known-in-loop-n-1}

count_is : (c : After-across) → c.down.result * c.across.result ≡ macroblocks_down c.args.size * macroblocks_across c.args.size
count_is c i = c.down.ensures i * c.across.ensures i

abbrev description : (s : After-shared_slice_known-5-1-unread) → Flat
description s = flat s.args.head.now s.args.macroblocks.now s.args.levels.now

abbrev description-at2 : (s : After-slice_known-in-loop-n-1) → Flat
description-at2 s = flat s.args.head.now s.args.macroblocks.now s.args.levels.now

abbrev description-at3 : (s : After-loop-n) → Flat
description-at3 s = flat s.args.head.now s.args.macroblocks.now s.args.levels.now

pub overflow_mul-count : goal.overflow_mul-count
overflow_mul-count c = omega (arith, count_is c, count_small c.args.size)

pub bounds-head-4 : goal.bounds-head-4
bounds-head-4 c =
    omega (arith, head_length_lem c.args.size (description c) c.requires.fine)

pub loop-n-init : goal.loop-n-init
unfolding quantiser_before
loop-n-init c = (search rules, refl, drawn_none c.requires.store)

pub turn-quantiser-requires : goal.turn-quantiser-requires
turn-quantiser-requires c =
    record {
      picture = record { fine = c.requires.fine; reference = c.requires.reference; store = c.loop-n.invariant.2.size };
      number = omega (arith, count_is (goal.at.turn-quantiser-requires c).After-across);
      before = c.loop-n.invariant.1;
    }

pub loop-n-preserved : goal.loop-n-preserved
loop-n-preserved c =
    let l = c.loop-n in
    let reference = c.args.reference.now in (
      search rules,
      c.turn-quantiser.ensures.quantiser ∙ ap (quantiser_before (macroblocks_across c.args.size) (description-at2 c)) (sym (add-one l.n)),
      drawn_content (contents_of c.args.size (description-at2 c) reference) reference (order c.args.size) l.invariant.2
          (content_there c.args.size (description-at2 c) reference l.n c.turn-quantiser.ensures.drawn),
    )

pub returns : goal.returns
unfolding rendered
returns c =
    let reference = c.args.reference.now in
    drawn_all (contents_of c.args.size (description-at3 c) reference) reference (order c.args.size) (omega (arith, count_is (goal.at.returns c).After-across)) c.loop-n.invariant.2
