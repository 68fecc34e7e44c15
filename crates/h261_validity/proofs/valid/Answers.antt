-- `h261_validity::valid` meets its contract: the lengths, the head and the groups are tested one after another. Assumes nothing.
use native.Mathlib.Omega.{arith}
use borrow.Author.Tests.{not-true, not-false}
use Rattle.h261_validity.proofs.Steps.{valid_lengths, valid-headed, valid_yes, long}
use Rattle.h261_validity.proofs.valid.Goals as goal

pub returns-then-not-lengths : goal.returns-then-not-lengths
returns-then-not-lengths c =
    valid_lengths c.args.format c.args.head.now c.args.macroblocks.now c.args.levels.now _ c.lengths.ensures
    (not-true _ c.if-not-lengths.true-raw)

pub valid_head-requires : goal.valid_head-requires
valid_head-requires c =
    omega (
      arith,
      (long c.args.format c.args.head.now c.args.macroblocks.now c.args.levels.now _ c.lengths.ensures
          (not-false _ c.if-not-lengths.false-raw)).0,
    )

pub returns-then-not-valid_head : goal.returns-then-not-valid_head
returns-then-not-valid_head c =
    valid-headed c.args.format c.args.head.now c.args.macroblocks.now c.args.levels.now _ c.lengths.ensures
    (not-false _ c.if-not-lengths.false-raw) _ c.valid_head.ensures (not-true _ c.if-not-valid_head.true-raw)

pub valid_groups-requires : goal.valid_groups-requires
valid_groups-requires c =
    (long c.args.format c.args.head.now c.args.macroblocks.now c.args.levels.now _ c.lengths.ensures
    (not-false _ c.if-not-lengths.false-raw)).1

pub returns : goal.returns
returns c =
    valid_yes c.args.format c.args.head.now c.args.macroblocks.now c.args.levels.now _ c.lengths.ensures
    (not-false _ c.if-not-lengths.false-raw) _ c.valid_head.ensures (not-false _ c.if-not-valid_head.false-raw) _ c.valid_groups.ensures
