-- `h261_validity::valid_head` meets its contract: its fields are tested in their order. Assumes nothing.
use Rattle.h261_validity.proofs.Steps.{head_tr, head_ptype, head_format, head_yes}
use Rattle.h261_validity.proofs.valid_head.Goals as goal

pub returns-then-head-gt31 : goal.returns-then-head-gt31
returns-then-head-gt31 c = head_tr c.args.format c.args.head.now c.if-head-gt31.true

pub returns-then-head-gt7 : goal.returns-then-head-gt7
returns-then-head-gt7 c =
    head_ptype c.args.format c.args.head.now c.if-head-gt31.false c.if-head-gt7.true

pub returns-then-head-bit : goal.returns-then-head-bit
returns-then-head-bit c =
    head_format c.args.format c.args.head.now c.if-head-gt31.false c.if-head-gt7.false _ c.bit.ensures c.if-head-bit.true

pub returns : goal.returns
returns c =
    head_yes c.args.format c.args.head.now c.if-head-gt31.false c.if-head-gt7.false _ c.bit.ensures
    c.if-head-bit.false _ c.all_quantisers.ensures
