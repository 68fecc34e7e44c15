-- `picture::groups` meets its contract. The loop's invariant: what is written is the groups before this one.
use native.Mathlib.Omega.{arith}
use Rattle.h263_writer.proofs.GroupTurn.{groups_begin, groups_done, head_room, group_asked, groups_more}
use Rattle.h263_writer.proofs.picture.groups.Goals as goal

pub loop-g-init : goal.loop-g-init
loop-g-init c = groups_begin _ _ _ _ _ _ _ _

pub overflow_add-gquant : goal.overflow_add-gquant
overflow_add-gquant c =
    omega (arith, head_room c.loop-g.invariant c.requires c.loop-g-test.true, c.requires.few)

pub bounds-head-g : goal.bounds-head-g
bounds-head-g c =
    head_room c.loop-g.invariant c.requires c.loop-g-test.true

pub group-place-requires : goal.group-place-requires
group-place-requires c =
    group_asked c.loop-g.invariant c.requires c.loop-g-test.true c.requires.counts

pub loop-g-preserved : goal.loop-g-preserved
loop-g-preserved c =
    groups_more c.loop-g.invariant c.requires c.loop-g-test.true c.group-place.ensures

pub returns : goal.returns
returns c = groups_done c.loop-g.invariant c.loop-g-test.false
