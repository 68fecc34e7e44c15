-- `picture::groups` meets its contract. The loop's invariant: what is written is the groups before this one.
use Prim.Native.Nat.{◌<◌}
use native.Mathlib.Omega.{arith}
use Rattle.h261_groups.specs.Format.{group_count}
use Rattle.h261_validity.proofs.Steps.{GroupFits, group_fits}
use Rattle.h261_writer.proofs.GroupTurn.{Described, valid_has, groups_begin, groups_done, group_asked, groups_more}
use Rattle.h261_writer.proofs.picture.groups.Goals as goal
use Rattle.h261_writer.proofs.picture.groups.Goals.{After-group-arg-in-loop-g-2-1, After-group_number-number, After-loop-g, After-shared_slice_known-in-loop-g-1-unread, After-slice_known-in-loop-g-1}

described : (s : After-group_number-number) → Described s.args.format s.args.head.now s.args.macroblocks.now s.args.levels.now
described s = valid_has s.args.format s.args.head.now s.args.macroblocks.now s.args.levels.now s.requires.valid

fits : (c : After-group_number-number) → GroupFits c.loop-g.g c.args.macroblocks.now c.args.levels.now
fits c =
    group_fits c.args.format (described c).macroblocks_long (described c).levels_long c.group_count-count.ensures c.loop-g-test.true

described-at2 : (s : After-shared_slice_known-in-loop-g-1-unread) → Described s.args.format s.args.head.now s.args.macroblocks.now s.args.levels.now
described-at2 s = valid_has s.args.format s.args.head.now s.args.macroblocks.now s.args.levels.now s.requires.valid

inside : (c : After-group_number-number) → c.loop-g.g < group_count c.args.format
inside c = omega (arith, c.group_count-count.ensures, c.loop-g-test.true)

described-at3 : (s : After-group-arg-in-loop-g-2-1) → Described s.args.format s.args.head.now s.args.macroblocks.now s.args.levels.now
described-at3 s = valid_has s.args.format s.args.head.now s.args.macroblocks.now s.args.levels.now s.requires.valid

described-at4 : (s : After-slice_known-in-loop-g-1) → Described s.args.format s.args.head.now s.args.macroblocks.now s.args.levels.now
described-at4 s = valid_has s.args.format s.args.head.now s.args.macroblocks.now s.args.levels.now s.requires.valid

described-at5 : (s : After-loop-g) → Described s.args.format s.args.head.now s.args.macroblocks.now s.args.levels.now
described-at5 s = valid_has s.args.format s.args.head.now s.args.macroblocks.now s.args.levels.now s.requires.valid

pub loop-g-init : goal.loop-g-init
loop-g-init c = groups_begin _ _ _ _ _ _

pub group_number-number-requires : goal.group_number-number-requires
group_number-number-requires c = omega (arith, c.group_count-count.ensures, c.loop-g-test.true)

pub overflow_mul-a : goal.overflow_mul-a
overflow_mul-a c = omega (arith, (fits c).low)

pub overflow_mul-b : goal.overflow_mul-b
overflow_mul-b c = omega (arith, (fits c).low)

pub overflow_add-gquant : goal.overflow_add-gquant
overflow_add-gquant c = omega (arith, (fits c).low)

pub bounds-head-g : goal.bounds-head-g
bounds-head-g c = omega (arith, (described-at2 c).head_long, inside (goal.at.bounds-head-g c).After-group_number-number)

pub slice_bounds-group-count : goal.slice_bounds-group-count
slice_bounds-group-count c = omega (arith, (fits (goal.at.slice_bounds-group-count c).After-group_number-number).fields_fit)

pub slice_bounds-group-start : goal.slice_bounds-group-start
slice_bounds-group-start c = omega (arith, (fits (goal.at.slice_bounds-group-start c).After-group_number-number).fields_fit)

pub slice_bounds-group-end : goal.slice_bounds-group-end
slice_bounds-group-end c = omega (arith, (fits (goal.at.slice_bounds-group-end c).After-group_number-number).fields_fit)

pub slice_bounds-group-count-in-loop-g : goal.slice_bounds-group-count-in-loop-g
slice_bounds-group-count-in-loop-g c = omega (arith, (fits (goal.at.slice_bounds-group-count-in-loop-g c).After-group_number-number).levels_fit)

pub slice_bounds-group-start-in-loop-g : goal.slice_bounds-group-start-in-loop-g
slice_bounds-group-start-in-loop-g c = omega (arith, (fits (goal.at.slice_bounds-group-start-in-loop-g c).After-group_number-number).levels_fit)

pub slice_bounds-group-end-in-loop-g : goal.slice_bounds-group-end-in-loop-g
slice_bounds-group-end-in-loop-g c = omega (arith, (fits (goal.at.slice_bounds-group-end-in-loop-g c).After-group_number-number).levels_fit)

pub group-place-requires : goal.group-place-requires
group-place-requires c =
    group_asked c.loop-g.invariant (described-at3 c) (inside (goal.at.group-place-requires c).After-group_number-number) _ c.group_number-number.ensures c.requires.tables c.requires.counts

pub loop-g-preserved : goal.loop-g-preserved
loop-g-preserved c =
    groups_more c.loop-g.invariant (described-at4 c) (inside (goal.at.loop-g-preserved c).After-group_number-number) _ c.group_number-number.ensures c.group-place.ensures

pub returns : goal.returns
returns c =
    groups_done c.loop-g.invariant (described-at5 c) (omega (arith, c.group_count-count.ensures, c.loop-g-test.false))
