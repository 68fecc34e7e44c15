-- `h261_reader::picture::groups` meets its contract: by turns over the groups, and within each over its macroblocks; the ways out meet in `left`.
use mathlib.Core.Path.{◌≡◌, refl, sym, ap, ◌∙◌}
use mathlib.Core.Bool.{true}
use native.Mathlib.Omega.{arith}
use Prim.Native.Nat.{◌+◌, ◌<◌}
use lib.Dec.{T, eqb}
use Rattle.std.proofs.Common.{Some}
use Rattle.bits.specs.Bits.{bits_left}
use Rattle.h261_groups.specs.Format.{group_count}
use Rattle.layout.specs.Numbers.{is_quantiser}
use Rattle.h261_layers.specs.Answer.{as_mba}
use Rattle.h261_layers.specs.Grammar.{mba}
use Rattle.bits.specs.Places.{counted}
use Rattle.bits.specs.Answer.{Placed}
use Rattle.fields.proofs.Told.{no_number, is_number}
use Rattle.h261_layers.proofs.MacroblockWhole.{quantiser_small, small_byte}
use Rattle.h261_reader.proofs.PictureTurn.{less_count, last_found, head_led, step-led, stuffing_led, macroblock-led, group_first, group_stuffed, group_more, group_no_macroblock, group_no_mba, group_ended, picture_first, picture_done, picture_no_head, picture_inside, picture_more, meant_is, kept_refusal, none_kept}
use Rattle.h261_groups.proofs.Room.{groups_most, number_most, number_within}
use Rattle.h261_reader.proofs.picture.groups.Goals as goal
use Rattle.h261_reader.proofs.picture.groups.Goals.{else-picture-test, then-picture-test+in_default, then-picture-test+in-Got+in-Got-found+in-Step+in_default-read, then-picture-test+in-Got+in_default-found}
use Rattle.h261_reader.proofs.picture.groups.Goals.{After-mba-found, In-Got, In-picture}

to_come : (c : In-picture) → c.picture.group < group_count c.args.format
to_come c = less_count c.picture.group _ _ c.picture-test.true c.group_count-all.ensures

led : (c : In-Got) → Placed c.args.bytes.now c.args.count c.in-Got.after × T (is_quantiser c.in-Got.gquant)
led c =
    head_led c.picture.invariant.1 (less_count c.picture.group _ _ c.picture-test.true c.group_count-all.ensures) _ _ _ c.group_number-number.ensures
    (is_number _ _ _ _ _ c.group_head-opened.ensures c.in-Got.is)

found_is : (c : After-mba-found) → as_mba c.args.bytes.now c.args.count c.mba-found.result
    ≡ mba {P = counted} (eqb (c.picture.group + 1) (group_count c.args.format)) c.group.behind.address
    (bits_left c.args.bytes.now c.args.count c.group.place.bit) c.group.place
found_is c = last_found _ _ c.mba-found.result c.picture.group _ _ _ _ _ c.mba-found.ensures c.group_count-all.ensures

pub picture-init : goal.picture-init
picture-init c =
    (refl, picture_first _ _ _ _ _ _ _ c.requires.0.placed c.requires.1.head_length c.requires.1.macroblocks_length c.requires.1.levels_length)

pub group_number-number-requires : goal.group_number-number-requires
group_number-number-requires c = to_come c

pub overflow_cast-number : goal.overflow_cast-number
overflow_cast-number c = let h = number_most c.args.format c.picture.group in omega (arith, c.group_number-number.ensures)

pub group_head-opened-requires : goal.group_head-opened-requires
group_head-opened-requires c = c.picture.invariant.1.placed

pub overflow_cast-head : goal.overflow_cast-head
overflow_cast-head c = record { fits = small_byte _ (quantiser_small true _ (led c).1) }

pub overflow_add-head : goal.overflow_add-head
overflow_add-head c =
    omega (arith, to_come (goal.at.overflow_add-head c).In-picture, groups_most c.args.format)

pub bounds-head-group : goal.bounds-head-group
bounds-head-group c =
    omega (arith, to_come (goal.at.bounds-head-group c).In-picture, c.picture.invariant.1.head_long)

pub group-init : goal.group-init
group-init c = (c.picture.invariant.0, group_first _ _ _ _ _ _ _ _ _ _ (led c).0)

pub overflow_add-group : goal.overflow_add-group
overflow_add-group c =
    omega (arith, to_come (goal.at.overflow_add-group c).In-picture, groups_most c.args.format)

pub mba-found-requires : goal.mba-found-requires
mba-found-requires c =
    (record { tabled = c.requires.0.tabled; placed = c.group.invariant.1.placed }, c.group.invariant.1.address)

pub macroblock-read-requires : goal.macroblock-read-requires
macroblock-read-requires c =
    let at_in_picture = (goal.at.macroblock-read-requires c).In-picture in
    let number = c.group_number-number.ensures in
    let found = step-led c.group.invariant.1 c.mba-found.result _ _ (found_is (goal.at.macroblock-read-requires c).After-mba-found) (meant_is c.in-Got-found.is c.in-Step.is) in
    let within = number_within c.args.format c.picture.group (to_come at_in_picture) in (
      record { tabled = c.requires.0.tabled; placed = found.placed },
      record {
        stepped = record {
          first_group = omega (arith, within.0, number);
          last_group = omega (arith, within.1, number);
          ahead = found.met.0;
          last_address = found.met.1;
          kept = c.group.invariant.1.kept;
        };
        group_high = omega (arith, to_come at_in_picture, groups_most c.args.format);
        macroblocks_room = omega (arith, to_come at_in_picture, c.group.invariant.1.ms_long, c.picture.invariant.1.ms_long);
        levels_room = omega (arith, to_come at_in_picture, c.group.invariant.1.ls_long, c.picture.invariant.1.ls_long);
      },
    )

pub group-smaller-in-Step : goal.group-smaller-in-Step
group-smaller-in-Step c =
    let ahead = macroblock-led c.group.invariant.1 c.mba-found.result _ _ (found_is (goal.at.group-smaller-in-Step c).After-mba-found) (meant_is c.in-Got-found.is c.in-Step.is) c.macroblock-read.result _ _
    c.macroblock-read.ensures _ _ c.in-Got-read.is in
    omega (arith, ahead.0, ahead.1.within.inside)

pub group-preserved-in-Step : goal.group-preserved-in-Step
group-preserved-in-Step c = (
  c.group.invariant.0,
  group_more c.group.invariant.1 c.mba-found.result _ _ (found_is (goal.at.group-preserved-in-Step c).After-mba-found) (meant_is c.in-Got-found.is c.in-Step.is) c.macroblock-read.result _ _
      c.macroblock-read.ensures _ _ c.in-Got-read.is
      c.macroblock-read.auto.macroblocks c.macroblock-read.auto.levels,
)

pub group-smaller : goal.group-smaller
group-smaller c =
    let ahead = stuffing_led c.group.invariant.1 c.mba-found.result _ (found_is (goal.at.group-smaller c).After-mba-found) (meant_is c.in-Got-found.is c.in-Stuffing.is) in
    omega (arith, ahead.0, ahead.1.within.inside)

pub group-preserved : goal.group-preserved
group-preserved c =
    (c.group.invariant.0, group_stuffed c.group.invariant.1 c.mba-found.result _ (found_is (goal.at.group-preserved c).After-mba-found) (meant_is c.in-Got-found.is c.in-Stuffing.is))

pub picture-preserved : goal.picture-preserved
picture-preserved c =
    let end = group_ended c.group.invariant.1 c.mba-found.result _ (found_is (goal.at.picture-preserved c).After-mba-found) (meant_is c.in-Got-found.is c.in-Ended.is) in (
      c.group.invariant.0,
      picture_more c.picture.invariant.1 (to_come (goal.at.picture-preserved c).In-picture) _ _ _ c.group_number-number.ensures
          (is_number _ _ _ _ _ c.group_head-opened.ensures c.in-Got.is) _ _ _ c.group.invariant.1.ms_long c.group.invariant.1.ls_long end.1 end.0,
    )

pub returns-in-Some : goal.returns-in-Some
returns-in-Some c =
    let picture = c.picture in
    let counted = c.group_count-all.ensures in
    elim c.picture-test.branch [
      | else-picture-test w ↦ absurd (none_kept picture.invariant.0 (sym w.stopped-is ∙ c.in-Some.is))
      | then-picture-test+in_default w ↦
          kept_refusal c.in-Some.is (w.stopped-is ∙ ap Some w.stopped.ensures)
          ∙ picture_no_head picture.invariant.1 (less_count picture.group _ _ w.picture-test.true counted) _ _ w.group_number-number.ensures
          (no_number _ _ w.group_head-opened.result w.in_default.is w.group_head-opened.ensures)
      | then-picture-test+in-Got+in-Got-found+in-Step+in_default-read w ↦
          kept_refusal c.in-Some.is (w.stopped-is ∙ ap Some w.stopped-in_default-read.ensures)
          ∙ picture_inside picture.invariant.1 (less_count picture.group _ _ w.picture-test.true counted) _ _ _ w.group_number-number.ensures
          (is_number _ _ _ _ _ w.group_head-opened.ensures w.in-Got.is) _
          (group_no_macroblock w.group.invariant.1 w.mba-found.result _ _ (last_found _ _ w.mba-found.result picture.group _ _ _ _ _ w.mba-found.ensures counted)
          (meant_is w.in-Got-found.is w.in-Step.is) w.macroblock-read.result _ _ w.macroblock-read.ensures w.in_default-read.is)
      | then-picture-test+in-Got+in_default-found w ↦
          kept_refusal c.in-Some.is (w.stopped-is ∙ ap Some w.stopped-in_default-found.ensures)
          ∙ picture_inside picture.invariant.1 (less_count picture.group _ _ w.picture-test.true counted) _ _ _ w.group_number-number.ensures
          (is_number _ _ _ _ _ w.group_head-opened.ensures w.in-Got.is) _
          (group_no_mba w.group.invariant.1 w.mba-found.result (last_found _ _ w.mba-found.result picture.group _ _ _ _ _ w.mba-found.ensures counted) w.in_default-found.is)
    ]

pub returns-in-None : goal.returns-in-None
returns-in-None c =
    elim c.picture-test.branch [
      | else-picture-test w ↦
          rw (w.head-is, w.macroblocks-is, w.levels-is, w.place-is) (picture_done c.picture.invariant.1 (omega (arith, w.picture-test.false, c.group_count-all.ensures)))
      | then-picture-test+in_default w ↦ absurd (none_kept c.in-None.is w.stopped-is)
      | then-picture-test+in-Got+in-Got-found+in-Step+in_default-read w ↦ absurd (none_kept c.in-None.is w.stopped-is)
      | then-picture-test+in-Got+in_default-found w ↦ absurd (none_kept c.in-None.is w.stopped-is)
    ]
