-- `h261_validity::macroblock::valid_vector` meets its contract: both components where the type is MC, else two zeros. Assumes nothing.
use native.Mathlib.Omega.{arith}
use borrow.Author.Tests.{not-true, not-false}
use Rattle.h261_validity.proofs.Steps.{vector_no, vector_yes, still_no, still_yes, sides}
use Rattle.h261_validity.proofs.macroblock.valid_vector.Goals as goal

pub valid_component-requires : goal.valid_component-requires
valid_component-requires c = (omega arith, omega (arith, c.width.ensures, sides c.args.format))

pub returns-then-not-valid_component : goal.returns-then-not-valid_component
returns-then-not-valid_component c =
    vector_no c.args.format c.args.number c.args.address c.args.fields.now _ c.is_mc.ensures
    (c.shared_slice_known-2-1.given 2).fits (c.shared_slice_known-2-1.given 3).fits _ _ c.if-is_mc.true
    c.width.ensures c.valid_component.ensures (not-true _ c.if-not-valid_component.true-raw)

pub valid_component-requires-then-is_mc : goal.valid_component-requires-then-is_mc
valid_component-requires-then-is_mc c =
    (omega arith, omega (arith, c.height.ensures, sides c.args.format))

pub returns-then-is_mc : goal.returns-then-is_mc
returns-then-is_mc c =
    vector_yes c.args.format c.args.number c.args.address c.args.fields.now _ c.is_mc.ensures
    (c.shared_slice_known-2-1.given 2).fits (c.shared_slice_known-2-1.given 3).fits _ _ _ _
    c.if-is_mc.true c.width.ensures c.valid_component.ensures
    (not-false _ c.if-not-valid_component.false-raw) c.height.ensures c.valid_component-then-is_mc.ensures

pub returns-then-across-ne0 : goal.returns-then-across-ne0
returns-then-across-ne0 c =
    still_no c.args.format c.args.number c.args.address c.args.fields.now _ c.is_mc.ensures
    c.if-is_mc.false c.if-across-ne0.true

pub returns : goal.returns
returns c =
    still_yes c.args.format c.args.number c.args.address c.args.fields.now _ c.is_mc.ensures
    c.if-is_mc.false c.if-across-ne0.false
