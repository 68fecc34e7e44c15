-- `sender::send_in` meets its contract: by the limit. Assumes nothing.
use native.Mathlib.Omega.{arith}
use Rattle.refusals.specs.Number.{number, read_table}
use Rattle.sender.proofs.Steps.{count_fits, bytes_fit, bytes_long, is_encoded, sent_comes, above_comes}
use Rattle.sender.proofs.send_in.Goals as goal

pub returns-then-limit-count : goal.returns-then-limit-count
unfolding number read_table
returns-then-limit-count c =
    above_comes c.requires.0 c.size_of-size.ensures c.limit.ensures c.args.scratch.now c.append_picture-count.ensures c.if-limit-count.true c.refused.ensures

pub overflow_add-bytes : goal.overflow_add-bytes
overflow_add-bytes c =
    omega (arith, count_fits c.requires.0 c.size_of-size.ensures c.limit.ensures c.args.scratch.now c.append_picture-count.ensures c.if-limit-count.false)

pub slice_bounds-put-end : goal.slice_bounds-put-end
slice_bounds-put-end c =
    bytes_fit c.requires.0 c.size_of-size.ensures c.limit.ensures c.args.scratch.now c.append_picture-count.ensures c.if-limit-count.false c.requires.1

pub slice_bounds-put-end-2 : goal.slice_bounds-put-end-2
slice_bounds-put-end-2 c =
    bytes_long c.requires.0 c.size_of-size.ensures c.limit.ensures c.args.scratch.now c.append_picture-count.ensures c.if-limit-count.false c.requires.1

pub put-requires : goal.put-requires
put-requires c =
    is_encoded c.requires.0 c.size_of-size.ensures c.limit.ensures c.args.scratch.now c.append_picture-count.ensures c.if-limit-count.false c.requires.1

pub returns : goal.returns
returns c =
    sent_comes c.requires.0 c.size_of-size.ensures c.limit.ensures c.args.scratch.now c.append_picture-count.ensures c.if-limit-count.false c.put.ensures
