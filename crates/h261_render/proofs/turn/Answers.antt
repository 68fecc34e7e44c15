-- `h261_render::turn` meets its contract: a valid description's macroblock is kept or sent as its content is. Assumes nothing.
use mathlib.Core.Path.{◌≡◌, sym}
use native.Mathlib.Omega.{arith}
use lib.ListN.{length}
use Rattle.samples.specs.Ready.{Ready}
use Rattle.h261_groups.specs.Format.{size_of}
use Rattle.layout.specs.Flat.{Flat, flat}
use Rattle.h261_description.specs.Fields.{quantiser_of}
use Rattle.h261_description.proofs.ValidAt.{fine_at, vector_at_lem}
use Rattle.h261_render.proofs.Picture.{Places, places, row_in, column_in, ready_for, kept_all, sent_all, sent_points, points_at, stands_is, quantiser_fine}
use Rattle.h261_render.proofs.turn.Goals as goal
use Rattle.h261_render.proofs.turn.Goals.{After-column-column, After-shared_slice_known-8-1, After-slice_known-2-1, After-slice_known-then-kind-eq0-1, Else-kind-eq0}

abbrev description : (s : After-column-column) → Flat
description s = flat s.args.head.now s.args.macroblocks.now s.args.levels.now

here : (c : After-column-column) → Places (description c) c.args.n
here c = places c.args.format (description c) c.requires.picture.fine c.args.n c.requires.number

ready : (c : After-column-column) → Ready (size_of c.args.format) c.row-row.result c.column-column.result
    (length c.args.reference.now) (length c.args.store.now)
ready c = record {
  reference = c.requires.picture.reference;
  store = c.requires.picture.store;
  row = row_in c.args.format c.args.n c.row-row.ensures c.requires.number;
  column = column_in c.args.format c.args.n c.column-column.ensures;
}

abbrev description-at2 : (s : After-slice_known-then-kind-eq0-1) → Flat
description-at2 s = flat s.args.head.now s.args.macroblocks.now s.args.levels.now

stands_right : (c : After-slice_known-then-kind-eq0-1) → c.stands-quantiser.result ≡ quantiser_of (description-at2 c) c.args.n
stands_right c =
    stands_is (description-at2 c) c.args.n c.args.last c.stood-before.result c.stands-quantiser.result c.requires.before
    c.stood-before.ensures c.stands-quantiser.ensures

abbrev description-at3 : (s : Else-kind-eq0) → Flat
description-at3 s = flat s.args.head.now s.args.macroblocks.now s.args.levels.now

abbrev description-at4 : (s : After-shared_slice_known-8-1) → Flat
description-at4 s = flat s.args.head.now s.args.macroblocks.now s.args.levels.now

stands_right-at2 : (c : After-shared_slice_known-8-1) → c.stands-quantiser.result ≡ quantiser_of (description-at4 c) c.args.n
stands_right-at2 c =
    stands_is (description-at4 c) c.args.n c.args.last c.stood-before.result c.stands-quantiser.result c.requires.before
    c.stood-before.ensures c.stands-quantiser.ensures

abbrev description-at5 : (s : After-slice_known-2-1) → Flat
description-at5 s = flat s.args.head.now s.args.macroblocks.now s.args.levels.now

stands_right-at3 : (c : After-slice_known-2-1) → c.stands-quantiser.result ≡ quantiser_of (description-at5 c) c.args.n
stands_right-at3 c =
    stands_is (description-at5 c) c.args.n c.args.last c.stood-before.result c.stands-quantiser.result c.requires.before
    c.stood-before.ensures c.stands-quantiser.ensures

pub row-row-requires : goal.row-row-requires
row-row-requires c = c.requires.number

pub column-column-requires : goal.column-column-requires
column-column-requires c = c.requires.number

pub overflow_mul-at : goal.overflow_mul-at
overflow_mul-at c = omega (arith, here c)

pub bounds-macroblocks-at : goal.bounds-macroblocks-at
bounds-macroblocks-at c = omega (arith, here (goal.at.bounds-macroblocks-at c).After-column-column)

pub stood-before-requires : goal.stood-before-requires
stood-before-requires c = omega (arith, here (goal.at.stood-before-requires c).After-column-column)

pub overflow_add-at : goal.overflow_add-at
overflow_add-at c = omega (arith, here (goal.at.overflow_add-at c).After-column-column)

pub bounds-macroblocks-at-2 : goal.bounds-macroblocks-at-2
bounds-macroblocks-at-2 c = omega (arith, here (goal.at.bounds-macroblocks-at-2 c).After-column-column)

pub kept-requires : goal.kept-requires
kept-requires c = ready_for c.size_of-size.ensures (ready (goal.at.kept-requires c).After-column-column)

pub returns-then-kind-eq0 : goal.returns-then-kind-eq0
returns-then-kind-eq0 c =
    record {
      quantiser = stands_right c;
      drawn = kept_all c.args.format c.args.n (description-at2 c) c.args.reference.now c.size_of-size.ensures
          c.row-row.ensures c.column-column.ensures c.if-kind-eq0.true c.kept.ensures;
    }

pub prediction_of-predicted-requires : goal.prediction_of-predicted-requires
prediction_of-predicted-requires c =
    omega (arith, (fine_at c.args.format (description-at3 c) c.requires.picture.fine c.args.n c.requires.number).kind)

pub overflow_add-at-2 : goal.overflow_add-at-2
overflow_add-at-2 c = omega (arith, here (goal.at.overflow_add-at-2 c).After-column-column)

pub bounds-macroblocks-at-3 : goal.bounds-macroblocks-at-3
bounds-macroblocks-at-3 c = omega (arith, here (goal.at.bounds-macroblocks-at-3 c).After-column-column)

pub overflow_add-at-3 : goal.overflow_add-at-3
overflow_add-at-3 c = omega (arith, here (goal.at.overflow_add-at-3 c).After-column-column)

pub bounds-macroblocks-at-4 : goal.bounds-macroblocks-at-4
bounds-macroblocks-at-4 c = omega (arith, here (goal.at.bounds-macroblocks-at-4 c).After-column-column)

pub overflow_mul-n : goal.overflow_mul-n
overflow_mul-n c = omega (arith, here (goal.at.overflow_mul-n c).After-column-column)

pub sent-requires : goal.sent-requires
sent-requires c =
    let at-after-column-column = (goal.at.sent-requires c).After-column-column in
    let fine = quantiser_fine c.args.format (description-at4 c) c.requires.picture.fine c.args.n c.requires.number (stands_right-at2 c) in
    record {
      ready = ready at-after-column-column;
      points = points_at c.args.n c.row-row.ensures c.column-column.ensures
          (sent_points c.args.format (description-at4 c) c.requires.picture.fine c.args.n c.requires.number);
      coded = record { room = omega (arith, here at-after-column-column); least = fine.0; most = fine.1 };
    }

pub returns : goal.returns
returns c =
    let d = description-at5 c in record {
      quantiser = stands_right-at3 c;
      drawn = sent_all c.args.format c.args.n d c.args.reference.now c.row-row.ensures c.column-column.ensures c.if-kind-eq0.false
          c.prediction_of-predicted.ensures (sym (vector_at_lem c.args.format d c.requires.picture.fine c.args.n c.requires.number)) (stands_right-at3 c)
          c.sent.ensures;
    }
