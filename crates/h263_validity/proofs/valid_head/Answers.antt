-- `h263_validity::valid_head` meets its contract: its fields are tested in their order. Assumes nothing.
use borrow.Author.Tests.{le-leb, lt-leb, not-true, not-false}
use Rattle.laws.proofs.Choice.{stop, pass}
use Rattle.h263_validity.proofs.Steps.{equal_to, other_than, byte_most, tested}
use Rattle.h263_validity.proofs.valid_head.Goals as goal

pub returns-then-head-gt7 : goal.returns-then-head-gt7
returns-then-head-gt7 c = pass (byte_most _ (c.type_inv.head 0).fits) (stop _ (lt-leb _ 7 c.if-head-gt7.true))

pub returns-then-head-format_number : goal.returns-then-head-format_number
returns-then-head-format_number c =
    pass (byte_most _ (c.shared_slice_known-2-1.given 0).fits)
    (pass (le-leb _ 7 c.if-head-gt7.false) (stop _ (other_than _ c.format_number.ensures c.if-head-format_number.true)))

pub returns-then-head-gt1 : goal.returns-then-head-gt1
returns-then-head-gt1 c =
    pass (byte_most _ (c.shared_slice_known-2-1.given 0).fits)
    (pass (le-leb _ 7 c.if-head-gt7.false)
    (pass (equal_to _ c.format_number.ensures c.if-head-format_number.false) (stop _ (lt-leb _ 1 c.if-head-gt1.true))))

pub returns-then-not-is_quantiser : goal.returns-then-not-is_quantiser
returns-then-not-is_quantiser c =
    pass (byte_most _ (c.shared_slice_known-2-1.given 0).fits)
    (pass (le-leb _ 7 c.if-head-gt7.false)
    (pass (equal_to _ c.format_number.ensures c.if-head-format_number.false)
    (pass (le-leb _ 1 c.if-head-gt1.false) (stop _ (tested c.is_quantiser.ensures (not-true _ c.if-not-is_quantiser.true-raw))))))

pub returns : goal.returns
returns c =
    pass (byte_most _ (c.shared_slice_known-2-1.given 0).fits)
    (pass (le-leb _ 7 c.if-head-gt7.false)
    (pass (equal_to _ c.format_number.ensures c.if-head-format_number.false)
    (pass (le-leb _ 1 c.if-head-gt1.false) (pass (tested c.is_quantiser.ensures (not-false _ c.if-not-is_quantiser.false-raw)) c.valid_gquants.ensures))))
