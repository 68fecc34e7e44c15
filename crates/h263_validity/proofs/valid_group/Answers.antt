-- `h263_validity::valid_group` meets its contract: the macroblocks so far are valid, and what is left is tested of the rest. Assumes nothing.
use Prim.Native.Nat.{◌*◌}
use native.Mathlib.Omega.{arith}
use borrow.Author.Tests.{not-true, not-false}
use Rattle.size.proofs.Blocks.{size_small}
use Rattle.layout.proofs.Turns.{group_begin, group_no, group_more, group_done, piece_length}
use Rattle.h263_validity.proofs.valid_group.Goals as goal

pub loop-k-init : goal.loop-k-init
loop-k-init c = group_begin _ _ _ _

pub overflow_mul-a : goal.overflow_mul-a
overflow_mul-a c =
    omega (arith, c.loop-k-test.true, c.across-count.ensures, (size_small c.args.size).1)

pub overflow_mul-b : goal.overflow_mul-b
overflow_mul-b c =
    omega (arith, c.loop-k-test.true, c.across-count.ensures, (size_small c.args.size).1)

pub slice_bounds-valid_macroblock-end : goal.slice_bounds-valid_macroblock-end
slice_bounds-valid_macroblock-end c =
    omega (arith, c.loop-k-test.true, c.across-count.ensures, c.requires.fields_room)

pub slice_bounds-valid_macroblock-end-in-loop-k : goal.slice_bounds-valid_macroblock-end-in-loop-k
slice_bounds-valid_macroblock-end-in-loop-k c =
    omega (arith, c.loop-k-test.true, c.across-count.ensures, c.requires.levels_room)

pub valid_macroblock-requires : goal.valid_macroblock-requires
valid_macroblock-requires c =
    let k = c.loop-k.k in
    record {
      addressed =
          record {
            last_group = c.requires.last_group;
            first_address = omega arith;
            last_address = omega (arith, c.loop-k-test.true, c.across-count.ensures, (size_small c.args.size).1);
          };
      fields_long = piece_length c.args.fields.now (k * 4) 4 (omega (arith, c.loop-k-test.true, c.across-count.ensures, c.requires.fields_room));
      levels_long = piece_length c.args.levels.now (k * 384) 384 (omega (arith, c.loop-k-test.true, c.across-count.ensures, c.requires.levels_room));
    }

pub returns-then-not-valid_macroblock : goal.returns-then-not-valid_macroblock
returns-then-not-valid_macroblock c =
    group_no c.loop-k.invariant (omega (arith, c.loop-k-test.true, c.across-count.ensures)) _ c.valid_macroblock.ensures
    (not-true _ c.if-not-valid_macroblock.true-raw)

pub loop-k-preserved : goal.loop-k-preserved
loop-k-preserved c =
    group_more c.loop-k.invariant (omega (arith, c.loop-k-test.true, c.across-count.ensures)) _ c.valid_macroblock.ensures
    (not-false _ c.if-not-valid_macroblock.false-raw)

pub returns : goal.returns
returns c = group_done c.loop-k.invariant (omega (arith, c.loop-k-test.false, c.across-count.ensures))
