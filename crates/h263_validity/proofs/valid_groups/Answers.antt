-- `h263_validity::valid_groups` meets its contract: the groups so far are valid, and what is left is tested of the rest. Assumes nothing.
use Prim.Native.Nat.{ℕ, ◌*◌, ◌<◌}
use mathlib.Core.Path.{◌≡◌}
use native.Mathlib.Omega.{arith}
use borrow.Author.Tests.{not-true, not-false}
use Rattle.size.specs.Place.{macroblocks_across, macroblocks_down}
use Rattle.size.proofs.Blocks.{size_small}
use Rattle.layout.proofs.Turns.{groups_begin, groups_no, groups_more, groups_done, part_length, GroupWithin}
use Rattle.h263_description.proofs.Groups.{groups_listed}
use Rattle.h263_validity.proofs.Steps.{parts_within, part_tested}
use Rattle.h263_validity.proofs.valid_groups.Goals as goal
use Rattle.h263_validity.proofs.valid_groups.Goals.{After-valid_group-arg-1, After-valid_group-arg-in-loop-g-1, In-loop-g}

fits : (s : In-loop-g) → {each count g : ℕ} → each ≡ macroblocks_across s.args.size → count ≡ macroblocks_down s.args.size → g < count
    → GroupWithin each g s.args.fields.now s.args.levels.now
fits s {g = g} e d l = parts_within s.args.size s.args.fields.now s.args.levels.now g e s.requires.0 s.requires.1 d l

fits-at2 : (s : After-valid_group-arg-1) → {each count g : ℕ} → each ≡ macroblocks_across s.args.size → count ≡ macroblocks_down s.args.size → g < count
    → GroupWithin each g s.args.fields.now s.args.levels.now
fits-at2 s {g = g} e d l = parts_within s.args.size s.args.fields.now s.args.levels.now g e s.requires.0 s.requires.1 d l

fits-at3 : (s : After-valid_group-arg-in-loop-g-1) → {each count g : ℕ} → each ≡ macroblocks_across s.args.size → count ≡ macroblocks_down s.args.size → g < count
    → GroupWithin each g s.args.fields.now s.args.levels.now
fits-at3 s {g = g} e d l = parts_within s.args.size s.args.fields.now s.args.levels.now g e s.requires.0 s.requires.1 d l

pub loop-g-init : goal.loop-g-init
loop-g-init c = groups_begin _ _ _ _ _

pub overflow_mul-a : goal.overflow_mul-a
overflow_mul-a c =
    omega (arith, c.across-each.ensures, (size_small c.args.size).1)

pub overflow_mul-a-in-loop-g : goal.overflow_mul-a-in-loop-g
overflow_mul-a-in-loop-g c =
    omega (arith, (fits c c.across-each.ensures c.down-count.ensures c.loop-g-test.true).fields_fit)

pub overflow_mul-b : goal.overflow_mul-b
overflow_mul-b c =
    omega (arith, c.across-each.ensures, (size_small c.args.size).1)

pub overflow_mul-b-in-loop-g : goal.overflow_mul-b-in-loop-g
overflow_mul-b-in-loop-g c =
    omega (arith, (fits c c.across-each.ensures c.down-count.ensures c.loop-g-test.true).levels_fit)

pub slice_bounds-valid_group-count : goal.slice_bounds-valid_group-count
slice_bounds-valid_group-count c =
    omega (arith, (fits c c.across-each.ensures c.down-count.ensures c.loop-g-test.true).fields_fit)

pub slice_bounds-valid_group-start : goal.slice_bounds-valid_group-start
slice_bounds-valid_group-start c =
    omega (arith, (fits c c.across-each.ensures c.down-count.ensures c.loop-g-test.true).fields_fit)

pub slice_bounds-valid_group-end : goal.slice_bounds-valid_group-end
slice_bounds-valid_group-end c =
    omega (arith, (fits c c.across-each.ensures c.down-count.ensures c.loop-g-test.true).fields_fit)

pub slice_bounds-valid_group-count-in-loop-g : goal.slice_bounds-valid_group-count-in-loop-g
slice_bounds-valid_group-count-in-loop-g c =
    omega (arith, (fits-at2 c c.across-each.ensures c.down-count.ensures c.loop-g-test.true).levels_fit)

pub slice_bounds-valid_group-start-in-loop-g : goal.slice_bounds-valid_group-start-in-loop-g
slice_bounds-valid_group-start-in-loop-g c =
    omega (arith, (fits-at2 c c.across-each.ensures c.down-count.ensures c.loop-g-test.true).levels_fit)

pub slice_bounds-valid_group-end-in-loop-g : goal.slice_bounds-valid_group-end-in-loop-g
slice_bounds-valid_group-end-in-loop-g c =
    omega (arith, (fits-at2 c c.across-each.ensures c.down-count.ensures c.loop-g-test.true).levels_fit)

pub valid_group-requires : goal.valid_group-requires
valid_group-requires c =
    let each = c.across-each.result in
    let g = c.loop-g.g in
    let fit = fits-at3 c c.across-each.ensures c.down-count.ensures c.loop-g-test.true in
    record {
      last_group = omega (arith, c.loop-g-test.true, c.down-count.ensures, (size_small c.args.size).0);
      fields_room = omega (arith, c.across-each.ensures, part_length c.args.fields.now (g * (each * 4)) (each * 4) fit.fields_fit);
      levels_room = omega (arith, c.across-each.ensures, part_length c.args.levels.now (g * (each * 384)) (each * 384) fit.levels_fit);
    }

pub returns-then-not-valid_group : goal.returns-then-not-valid_group
returns-then-not-valid_group c =
    groups_no c.loop-g.invariant (omega (arith, c.loop-g-test.true, c.down-count.ensures, groups_listed c.args.size)) _
    (part_tested c.args.size c.args.fields.now c.args.levels.now c.loop-g.g c.across-each.ensures c.args.intra _ (omega (arith, c.loop-g-test.true, c.down-count.ensures)) c.valid_group.ensures)
    (not-true _ c.if-not-valid_group.true-raw)

pub loop-g-preserved : goal.loop-g-preserved
loop-g-preserved c =
    groups_more c.loop-g.invariant (omega (arith, c.loop-g-test.true, c.down-count.ensures, groups_listed c.args.size)) _
    (part_tested c.args.size c.args.fields.now c.args.levels.now c.loop-g.g c.across-each.ensures c.args.intra _ (omega (arith, c.loop-g-test.true, c.down-count.ensures)) c.valid_group.ensures)
    (not-false _ c.if-not-valid_group.false-raw)

pub returns : goal.returns
returns c =
    groups_done c.loop-g.invariant (omega (arith, c.loop-g-test.false, c.down-count.ensures, groups_listed c.args.size))
