-- `h261_validity::valid_groups` meets its contract: the groups so far are valid, and what is left is tested of the rest. Assumes nothing.
use Prim.Native.Nat.{ℕ, ◌*◌, ◌<◌}
use mathlib.Core.Path.{◌≡◌}
use native.Mathlib.Omega.{arith}
use borrow.Author.Tests.{not-true, not-false}
use Rattle.h261_groups.specs.Format.{group_count}
use Rattle.h261_groups.proofs.Room.{groups_listed, number_within}
use Rattle.h261_description.specs.Valid.{valid_macroblock}
use Rattle.layout.proofs.Turns.{groups_begin, groups_no, groups_more, groups_done, group_part, part_length}
use Rattle.h261_validity.proofs.Steps.{GroupFits, group_fits}
use Rattle.h261_validity.proofs.valid_groups.Goals as goal
use Rattle.h261_validity.proofs.valid_groups.Goals.{After-group_number-number, After-valid_group-arg-1, After-valid_group-arg-in-loop-g-1}

fits : (s : After-group_number-number) → {g count : ℕ} → count ≡ group_count s.args.format → g < count → GroupFits g s.args.fields.now s.args.levels.now
fits s e h = group_fits s.args.format s.requires.0 s.requires.1 e h

fits-at2 : (s : After-valid_group-arg-1) → {g count : ℕ} → count ≡ group_count s.args.format → g < count → GroupFits g s.args.fields.now s.args.levels.now
fits-at2 s e h = group_fits s.args.format s.requires.0 s.requires.1 e h

fits-at3 : (s : After-valid_group-arg-in-loop-g-1) → {g count : ℕ} → count ≡ group_count s.args.format → g < count → GroupFits g s.args.fields.now s.args.levels.now
fits-at3 s e h = group_fits s.args.format s.requires.0 s.requires.1 e h

pub loop-g-init : goal.loop-g-init
loop-g-init c = (c.group_count-count.ensures, groups_begin 33 _ _ _ _)

pub group_number-number-requires : goal.group_number-number-requires
group_number-number-requires c = omega (arith, c.loop-g.invariant.0, c.loop-g-test.true)

pub overflow_mul-a : goal.overflow_mul-a
overflow_mul-a c =
    omega (arith, (fits c c.loop-g.invariant.0 c.loop-g-test.true).low)

pub overflow_mul-b : goal.overflow_mul-b
overflow_mul-b c =
    omega (arith, (fits c c.loop-g.invariant.0 c.loop-g-test.true).low)

pub slice_bounds-valid_group-count : goal.slice_bounds-valid_group-count
slice_bounds-valid_group-count c =
    omega (arith, (fits c c.loop-g.invariant.0 c.loop-g-test.true).fields_fit)

pub slice_bounds-valid_group-start : goal.slice_bounds-valid_group-start
slice_bounds-valid_group-start c =
    omega (arith, (fits c c.loop-g.invariant.0 c.loop-g-test.true).fields_fit)

pub slice_bounds-valid_group-end : goal.slice_bounds-valid_group-end
slice_bounds-valid_group-end c =
    omega (arith, (fits c c.loop-g.invariant.0 c.loop-g-test.true).fields_fit)

pub slice_bounds-valid_group-count-in-loop-g : goal.slice_bounds-valid_group-count-in-loop-g
slice_bounds-valid_group-count-in-loop-g c =
    omega (arith, (fits-at2 c c.loop-g.invariant.0 c.loop-g-test.true).levels_fit)

pub slice_bounds-valid_group-start-in-loop-g : goal.slice_bounds-valid_group-start-in-loop-g
slice_bounds-valid_group-start-in-loop-g c =
    omega (arith, (fits-at2 c c.loop-g.invariant.0 c.loop-g-test.true).levels_fit)

pub slice_bounds-valid_group-end-in-loop-g : goal.slice_bounds-valid_group-end-in-loop-g
slice_bounds-valid_group-end-in-loop-g c =
    omega (arith, (fits-at2 c c.loop-g.invariant.0 c.loop-g-test.true).levels_fit)

pub valid_group-requires : goal.valid_group-requires
valid_group-requires c =
    let g = c.loop-g.g in
    let within = number_within c.args.format g (omega (arith, c.loop-g.invariant.0, c.loop-g-test.true)) in
    let fit = fits-at3 c c.loop-g.invariant.0 c.loop-g-test.true in
    record {
      first_group = omega (arith, c.group_number-number.ensures, within.0);
      last_group = omega (arith, c.group_number-number.ensures, within.1);
      fields_room = part_length c.args.fields.now (g * 132) 132 fit.fields_fit;
      levels_room = part_length c.args.levels.now (g * 12672) 12672 fit.levels_fit;
    }

pub returns-then-not-valid_group : goal.returns-then-not-valid_group
returns-then-not-valid_group c =
    groups_no c.loop-g.invariant.1 (omega (arith, c.loop-g.invariant.0, c.loop-g-test.true, groups_listed c.args.format)) _
    (group_part 33 (valid_macroblock c.args.format) c.args.fields.now c.args.levels.now _ _ _ _ _ c.group_number-number.ensures
    c.valid_group.ensures)
    (not-true _ c.if-not-valid_group.true-raw)

pub loop-g-preserved : goal.loop-g-preserved
loop-g-preserved c = (
  c.loop-g.invariant.0,
  groups_more c.loop-g.invariant.1 (omega (arith, c.loop-g.invariant.0, c.loop-g-test.true, groups_listed c.args.format)) _
      (group_part 33 (valid_macroblock c.args.format) c.args.fields.now c.args.levels.now _ _ _ _ _ c.group_number-number.ensures
      c.valid_group.ensures)
      (not-false _ c.if-not-valid_group.false-raw),
)

pub returns : goal.returns
returns c =
    groups_done c.loop-g.invariant.1 (omega (arith, c.loop-g.invariant.0, c.loop-g-test.false, groups_listed c.args.format))
