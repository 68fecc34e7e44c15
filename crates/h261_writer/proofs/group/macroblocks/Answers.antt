-- `group::macroblocks` meets its contract. The loop's invariant: what is written is the macroblocks before this address.
use native.Mathlib.Omega.{arith}
use Rattle.h261_writer.proofs.GroupTurn.{macroblocks_begin, macroblocks_done, macroblocks_skip, macroblock_asked, macroblocks_more}
use Rattle.h261_writer.proofs.group.macroblocks.Goals as goal

pub loop-k-init : goal.loop-k-init
loop-k-init c = macroblocks_begin _ _ _ _

pub bounds-fields-a : goal.bounds-fields-a
bounds-fields-a c = omega (arith, c.requires.fields_long, c.loop-k-test.true)

pub loop-k-preserved-then-fields-a-eq0 : goal.loop-k-preserved-then-fields-a-eq0
loop-k-preserved-then-fields-a-eq0 c = macroblocks_skip c.loop-k.invariant c.loop-k-test.true c.if-fields-a-eq0.true

pub slice_bounds-macroblock-end : goal.slice_bounds-macroblock-end
slice_bounds-macroblock-end c = omega (arith, c.requires.fields_long, c.loop-k-test.true)

pub slice_bounds-macroblock-end-in-loop-k : goal.slice_bounds-macroblock-end-in-loop-k
slice_bounds-macroblock-end-in-loop-k c = omega (arith, c.requires.levels_long, c.loop-k-test.true)

pub macroblock-place-requires : goal.macroblock-place-requires
macroblock-place-requires c =
    macroblock_asked c.loop-k.invariant c.loop-k-test.true c.if-fields-a-eq0.false c.requires c.requires.counts

pub bounds-fields-a-in-loop-k : goal.bounds-fields-a-in-loop-k
bounds-fields-a-in-loop-k c = omega (arith, c.requires.fields_long, c.loop-k-test.true)

pub bounds-fields-a-in-loop-k-2 : goal.bounds-fields-a-in-loop-k-2
bounds-fields-a-in-loop-k-2 c = omega (arith, c.requires.fields_long, c.loop-k-test.true)

pub loop-k-preserved : goal.loop-k-preserved
loop-k-preserved c =
    macroblocks_more c.loop-k.invariant c.loop-k-test.true c.if-fields-a-eq0.false c.requires.sound c.macroblock-place.ensures

pub returns : goal.returns
returns c = macroblocks_done c.loop-k.invariant c.loop-k-test.false
