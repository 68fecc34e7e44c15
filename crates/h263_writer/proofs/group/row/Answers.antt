-- `group::row` meets its contract. The loop's invariant: what is written is the macroblocks before this column.
use native.Mathlib.Omega.{arith}
use Rattle.bits.proofs.Appended.{fixed_fits}
use Rattle.h263_writer.proofs.RowTurn.{row_begin, row_done, row_room, levels_room, unsent_counts, row_unsent, macroblock_asked, row_sent}
use Rattle.h263_writer.proofs.group.row.Goals as goal

pub overflow_mul-first : goal.overflow_mul-first
overflow_mul-first c =
    omega (arith, c.requires.inside, c.requires.sound.macroblocks_long, c.well_formed)

pub loop-k-init : goal.loop-k-init
loop-k-init c = row_begin _ _ _ _ _ _ _ _

pub overflow_add-n : goal.overflow_add-n
overflow_add-n c =
    omega (arith, row_room c.loop-k.invariant c.requires c.loop-k-test.true)

pub overflow_mul-a : goal.overflow_mul-a
overflow_mul-a c =
    omega (arith, row_room c.loop-k.invariant c.requires c.loop-k-test.true)

pub overflow_mul-b : goal.overflow_mul-b
overflow_mul-b c =
    omega (arith, levels_room c.loop-k.invariant c.requires c.loop-k-test.true)

pub bounds-macroblocks-a : goal.bounds-macroblocks-a
bounds-macroblocks-a c =
    omega (arith, row_room c.loop-k.invariant c.requires c.loop-k-test.true)

pub append-place-requires : goal.append-place-requires
append-place-requires c =
    (fixed_fits 1 1 tt tt tt, unsent_counts c.loop-k.invariant c.requires c.loop-k-test.true c.if-macroblocks-a-eq0.true c.requires.counts)

pub loop-k-preserved-then-macroblocks-a-eq0 : goal.loop-k-preserved-then-macroblocks-a-eq0
loop-k-preserved-then-macroblocks-a-eq0 c =
    row_unsent c.loop-k.invariant c.requires c.loop-k-test.true c.if-macroblocks-a-eq0.true c.append-place.ensures

pub overflow_add-b : goal.overflow_add-b
overflow_add-b c =
    omega (arith, levels_room c.loop-k.invariant c.requires c.loop-k-test.true)

pub slice_bounds-macroblock-end : goal.slice_bounds-macroblock-end
slice_bounds-macroblock-end c =
    omega (arith, levels_room c.loop-k.invariant c.requires c.loop-k-test.true)

pub macroblock-place-requires : goal.macroblock-place-requires
macroblock-place-requires c =
    macroblock_asked c.loop-k.invariant c.requires c.loop-k-test.true c.if-macroblocks-a-eq0.false c.headed-under.ensures c.requires.counts

pub loop-k-preserved : goal.loop-k-preserved
loop-k-preserved c =
    row_sent c.loop-k.invariant c.requires c.loop-k-test.true c.if-macroblocks-a-eq0.false c.headed-under.ensures c.macroblock-place.ensures

pub returns : goal.returns
returns c = row_done c.loop-k.invariant c.loop-k-test.false
