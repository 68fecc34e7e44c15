-- `h261_validity::valid_group` meets its contract: the macroblocks so far are valid, and what is left is tested of the rest. Assumes nothing.
use Prim.Native.Nat.{◌*◌}
use native.Mathlib.Omega.{arith}
use borrow.Author.Tests.{not-true, not-false}
use Rattle.layout.proofs.Turns.{group_begin, group_no, group_more, group_done, piece_length}
use Rattle.h261_validity.proofs.valid_group.Goals as goal

pub loop-k-init : goal.loop-k-init
loop-k-init c = group_begin 33 _ _ _

pub valid_macroblock-requires : goal.valid_macroblock-requires
valid_macroblock-requires c =
    let k = c.loop-k.k in
    record {
      addressed = record { first_group = c.requires.first_group; last_group = c.requires.last_group; first_address = omega arith; last_address = omega arith };
      fields_long = piece_length c.args.fields.now (k * 4) 4 (omega (arith, c.requires.fields_room, c.loop-k-test.true));
      levels_long = piece_length c.args.levels.now (k * 384) 384 (omega (arith, c.requires.levels_room, c.loop-k-test.true));
    }

pub returns-then-not-valid_macroblock : goal.returns-then-not-valid_macroblock
returns-then-not-valid_macroblock c =
    group_no c.loop-k.invariant c.loop-k-test.true _ c.valid_macroblock.ensures (not-true _ c.if-not-valid_macroblock.true-raw)

pub loop-k-preserved : goal.loop-k-preserved
loop-k-preserved c =
    group_more c.loop-k.invariant c.loop-k-test.true _ c.valid_macroblock.ensures (not-false _ c.if-not-valid_macroblock.false-raw)

pub returns : goal.returns
returns c = group_done c.loop-k.invariant c.loop-k-test.false
