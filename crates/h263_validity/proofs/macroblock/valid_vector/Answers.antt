-- `h263_validity::macroblock::valid_vector` meets its contract: both components where the type is INTER, else two zeros. Assumes nothing.
use native.Mathlib.Omega.{arith}
use borrow.Author.Tests.{not-true, not-false}
use Rattle.h263_validity.proofs.Steps.{vector_no, vector_yes, still_no, still_yes, sides}
use Rattle.h263_validity.proofs.macroblock.valid_vector.Goals as goal

pub overflow_sub-width : goal.overflow_sub-width
overflow_sub-width c =
    omega (arith, c.width.ensures, (sides c.args.size).0.0)

pub overflow_mul-width : goal.overflow_mul-width
overflow_mul-width c =
    omega (arith, c.width.ensures, (sides c.args.size).0.1)

pub returns-then-not-valid_component : goal.returns-then-not-valid_component
returns-then-not-valid_component c =
    vector_no c.args.size c.args.number c.args.address c.args.fields.now _ c.is_inter.ensures c.if-is_inter.true
    (c.shared_slice_known-2-1.given 2).fits (c.shared_slice_known-2-1.given 3).fits _ _ c.width.ensures
    c.valid_component.ensures (not-true _ c.if-not-valid_component.true-raw)

pub overflow_sub-height : goal.overflow_sub-height
overflow_sub-height c =
    omega (arith, c.height.ensures, (sides c.args.size).1.0)

pub overflow_mul-height : goal.overflow_mul-height
overflow_mul-height c =
    omega (arith, c.height.ensures, (sides c.args.size).1.1)

pub returns-then-is_inter : goal.returns-then-is_inter
returns-then-is_inter c =
    vector_yes c.args.size c.args.number c.args.address c.args.fields.now _ c.is_inter.ensures c.if-is_inter.true
    (c.shared_slice_known-2-1.given 2).fits (c.shared_slice_known-2-1.given 3).fits _ _ _ _ c.width.ensures
    c.valid_component.ensures (not-false _ c.if-not-valid_component.false-raw) c.height.ensures c.valid_component-then-is_inter.ensures

pub returns-then-across-ne0 : goal.returns-then-across-ne0
returns-then-across-ne0 c =
    still_no c.args.size c.args.number c.args.address c.args.fields.now _ c.is_inter.ensures
    c.if-is_inter.false c.if-across-ne0.true

pub returns : goal.returns
returns c =
    still_yes c.args.size c.args.number c.args.address c.args.fields.now _ c.is_inter.ensures
    c.if-is_inter.false c.if-across-ne0.false
