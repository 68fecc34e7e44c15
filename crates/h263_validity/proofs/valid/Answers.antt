-- `h263_validity::valid` meets its contract: the lengths, the head and the groups are tested one after another. Assumes nothing.
use native.Mathlib.Omega.{arith}
use borrow.Author.Tests.{not-true, not-false}
use Rattle.laws.proofs.Choice.{stop, pass}
use Rattle.h263_validity.proofs.Steps.{valid_is, lengths_are, head_long, tested}
use Rattle.h263_validity.proofs.valid.Goals as goal

pub returns-then-not-lengths : goal.returns-then-not-lengths
returns-then-not-lengths c =
    let a = c.args in
    valid_is a.size a.head.now a.macroblocks.now a.levels.now (stop _ (tested c.lengths.ensures (not-true _ c.if-not-lengths.true-raw)))

pub valid_head-requires : goal.valid_head-requires
valid_head-requires c =
    let a = c.args in
    head_long a.size a.head.now a.macroblocks.now a.levels.now (tested c.lengths.ensures (not-false _ c.if-not-lengths.false-raw))

pub returns-then-not-valid_head : goal.returns-then-not-valid_head
returns-then-not-valid_head c =
    let a = c.args in
    valid_is a.size a.head.now a.macroblocks.now a.levels.now
    (pass (tested c.lengths.ensures (not-false _ c.if-not-lengths.false-raw)) (stop _ (tested c.valid_head.ensures (not-true _ c.if-not-valid_head.true-raw))))

pub bounds-head-3 : goal.bounds-head-3
bounds-head-3 c =
    let a = c.args in
    omega (
      arith,
      head_long a.size a.head.now a.macroblocks.now a.levels.now (tested c.lengths.ensures (not-false _ c.if-not-lengths.false-raw)),
    )

pub valid_groups-requires : goal.valid_groups-requires
valid_groups-requires c =
    let a = c.args in
    let long = lengths_are a.size a.head.now a.macroblocks.now a.levels.now (tested c.lengths.ensures (not-false _ c.if-not-lengths.false-raw)) in
    (long.macroblocks_length, long.levels_length)

pub returns : goal.returns
returns c =
    let a = c.args in
    valid_is a.size a.head.now a.macroblocks.now a.levels.now
    (pass (tested c.lengths.ensures (not-false _ c.if-not-lengths.false-raw))
    (pass (tested c.valid_head.ensures (not-false _ c.if-not-valid_head.false-raw)) c.valid_groups.ensures))
