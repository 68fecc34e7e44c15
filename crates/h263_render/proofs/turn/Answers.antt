-- `h263_render::turn` meets its contract: a valid description's macroblock is kept or sent as its content is. Assumes nothing.
use mathlib.Core.Path.{◌≡◌, sym, ap, subst, ◌∙◌}
use Prim.Native.Nat.{ℕ, ◌/◌, ◌%◌, ◌<◌}
use native.Mathlib.Omega.{arith}
use lib.ListN.{length}
use Rattle.size.specs.Place.{macroblocks_across, macroblocks_down}
use Rattle.samples.specs.Ready.{Ready}
use Rattle.layout.specs.Flat.{Flat, flat}
use Rattle.layout.specs.Fields.{type_of}
use Rattle.h263_description.specs.Fields.{quantiser_of}
use Rattle.h263_description.proofs.Groups.{some_across, row_in, column_in}
use Rattle.h263_description.proofs.ValidAt.{fine_at, inter_aims}
use Rattle.h263_render.proofs.Picture.{Places, places, kept_all, sent_all, kind_inter, stands_is, quantiser_fine}
use Rattle.h263_render.proofs.turn.Goals as goal
use Rattle.h263_render.proofs.turn.Goals.{After-across-across, After-shared_slice_known-8-1, After-slice_known-2-1, After-slice_known-then-kind-eq0-1}

abbrev description : (s : After-across-across) → Flat
description s = flat s.args.head.now s.args.macroblocks.now s.args.levels.now

here : (c : After-across-across) → Places c.args.size (description c) c.args.n
here c = places c.args.size (description c) c.requires.picture.fine c.args.n c.requires.number

row_is : (c : After-across-across) → c.args.n / c.across-across.result ≡ c.args.n / macroblocks_across c.args.size
row_is c = ap (λ (a : ℕ). c.args.n / a) c.across-across.ensures

column_is : (c : After-across-across) → c.args.n % c.across-across.result ≡ c.args.n % macroblocks_across c.args.size
column_is c = ap (λ (a : ℕ). c.args.n % a) c.across-across.ensures

ready : (c : After-across-across) → Ready c.args.size (c.args.n / c.across-across.result) (c.args.n % c.across-across.result) (length c.args.reference.now) (length c.args.store.now)
ready c = record {
  reference = c.requires.picture.reference;
  store = c.requires.picture.store;
  row = subst (λ (r : ℕ). r < macroblocks_down c.args.size) (sym (row_is c)) (row_in c.args.size c.args.n c.requires.number);
  column = subst (λ (k : ℕ). k < macroblocks_across c.args.size) (sym (column_is c)) (column_in c.args.size c.args.n);
}

abbrev description-at2 : (s : After-slice_known-then-kind-eq0-1) → Flat
description-at2 s = flat s.args.head.now s.args.macroblocks.now s.args.levels.now

stands_right : (c : After-slice_known-then-kind-eq0-1) → c.changed-quantiser.result ≡ quantiser_of (macroblocks_across c.args.size) (description-at2 c) c.args.n
stands_right c =
    stands_is (description-at2 c) c.args.n c.across-across.ensures c.requires.before c.started-before.ensures c.changed-quantiser.ensures

abbrev description-at3 : (s : After-shared_slice_known-8-1) → Flat
description-at3 s = flat s.args.head.now s.args.macroblocks.now s.args.levels.now

stands_right-at2 : (c : After-shared_slice_known-8-1) → c.changed-quantiser.result ≡ quantiser_of (macroblocks_across c.args.size) (description-at3 c) c.args.n
stands_right-at2 c =
    stands_is (description-at3 c) c.args.n c.across-across.ensures c.requires.before c.started-before.ensures c.changed-quantiser.ensures

abbrev description-at4 : (s : After-slice_known-2-1) → Flat
description-at4 s = flat s.args.head.now s.args.macroblocks.now s.args.levels.now

stands_right-at3 : (c : After-slice_known-2-1) → c.changed-quantiser.result ≡ quantiser_of (macroblocks_across c.args.size) (description-at4 c) c.args.n
stands_right-at3 c =
    stands_is (description-at4 c) c.args.n c.across-across.ensures c.requires.before c.started-before.ensures c.changed-quantiser.ensures

pub nonzero_div-row : goal.nonzero_div-row
nonzero_div-row c = omega (arith, c.across-across.ensures, some_across c.args.size)

pub nonzero_rem-column : goal.nonzero_rem-column
nonzero_rem-column c = omega (arith, c.across-across.ensures, some_across c.args.size)

pub overflow_mul-at : goal.overflow_mul-at
overflow_mul-at c = omega (arith, here c)

pub bounds-macroblocks-at : goal.bounds-macroblocks-at
bounds-macroblocks-at c = omega (arith, here (goal.at.bounds-macroblocks-at c).After-across-across)

pub started-before-requires : goal.started-before-requires
started-before-requires c =
    let at-after-across-across = (goal.at.started-before-requires c).After-across-across in
    omega (arith, here at-after-across-across, row_is at-after-across-across)

pub overflow_add-at : goal.overflow_add-at
overflow_add-at c = omega (arith, here (goal.at.overflow_add-at c).After-across-across)

pub bounds-macroblocks-at-2 : goal.bounds-macroblocks-at-2
bounds-macroblocks-at-2 c = omega (arith, here (goal.at.bounds-macroblocks-at-2 c).After-across-across)

pub kept-requires : goal.kept-requires
kept-requires c = ready (goal.at.kept-requires c).After-across-across

pub returns-then-kind-eq0 : goal.returns-then-kind-eq0
returns-then-kind-eq0 c =
    let at-after-across-across = (goal.at.returns-then-kind-eq0 c).After-across-across in
    record { quantiser = stands_right c; drawn = kept_all c.args.size c.args.n (description-at2 c) c.args.reference.now (row_is at-after-across-across) (column_is at-after-across-across) c.if-kind-eq0.true c.kept.ensures }

pub overflow_add-at-2 : goal.overflow_add-at-2
overflow_add-at-2 c = omega (arith, here (goal.at.overflow_add-at-2 c).After-across-across)

pub bounds-macroblocks-at-3 : goal.bounds-macroblocks-at-3
bounds-macroblocks-at-3 c = omega (arith, here (goal.at.bounds-macroblocks-at-3 c).After-across-across)

pub overflow_add-at-3 : goal.overflow_add-at-3
overflow_add-at-3 c = omega (arith, here (goal.at.overflow_add-at-3 c).After-across-across)

pub bounds-macroblocks-at-4 : goal.bounds-macroblocks-at-4
bounds-macroblocks-at-4 c = omega (arith, here (goal.at.bounds-macroblocks-at-4 c).After-across-across)

pub overflow_mul-n : goal.overflow_mul-n
overflow_mul-n c = omega (arith, here (goal.at.overflow_mul-n c).After-across-across)

pub sent-requires : goal.sent-requires
sent-requires c =
    let at-after-across-across = (goal.at.sent-requires c).After-across-across in
    let d = description-at3 c in
    let n = c.args.n in
    let fine = c.requires.picture.fine in
    let quantiser = quantiser_fine c.args.size d fine n (stands_right-at2 c) in
    record {
      ready = ready at-after-across-across;
      aims = λ e p y x er ec. inter_aims c.args.size d fine n c.requires.number
          (kind_inter (type_of d n) (fine_at c.args.size d fine n c.requires.number).kind c.if-kind-eq0.false (sym c.is_intra-intra.ensures ∙ e)) p y x (er ∙ row_is at-after-across-across) (ec ∙ column_is at-after-across-across);
      coded = record { room = omega (arith, here at-after-across-across); least = quantiser.0; most = quantiser.1 };
    }

pub returns : goal.returns
returns c =
    let at-after-across-across = (goal.at.returns c).After-across-across in
    record {
      quantiser = stands_right-at3 c;
      drawn = sent_all c.args.size c.args.n (description-at4 c) c.args.reference.now (row_is at-after-across-across) (column_is at-after-across-across) c.if-kind-eq0.false c.is_intra-intra.ensures (stands_right-at3 c)
          c.sent.ensures;
    }
