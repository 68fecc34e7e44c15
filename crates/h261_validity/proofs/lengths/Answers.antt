-- `h261_validity::lengths` meets its contract: the three lengths are compared one after another. Assumes nothing.
use Rattle.h261_validity.proofs.Steps.{lengths_head, lengths_macroblocks, lengths_levels}
use Rattle.h261_validity.proofs.lengths.Goals as goal

pub returns-then-head-head_length : goal.returns-then-head-head_length
returns-then-head-head_length c =
    lengths_head c.args.format c.args.head.now c.args.macroblocks.now c.args.levels.now _ c.head_length.ensures
    c.if-head-head_length.true

pub returns-then-macroblocks-macroblocks_length : goal.returns-then-macroblocks-macroblocks_length
returns-then-macroblocks-macroblocks_length c =
    lengths_macroblocks c.args.format c.args.head.now c.args.macroblocks.now c.args.levels.now _
    c.head_length.ensures c.if-head-head_length.false _ c.macroblocks_length.ensures c.if-macroblocks-macroblocks_length.true

pub returns : goal.returns
returns c =
    lengths_levels c.args.format c.args.head.now c.args.macroblocks.now c.args.levels.now _
    c.head_length.ensures c.if-head-head_length.false _ c.macroblocks_length.ensures c.if-macroblocks-macroblocks_length.false _
    c.levels_length.ensures
