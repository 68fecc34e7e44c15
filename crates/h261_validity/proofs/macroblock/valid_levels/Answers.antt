-- `h261_validity::macroblock::valid_levels` meets its contract: by the type, the tests of its levels. Assumes nothing.
use mathlib.Core.Path.{sym, ◌∙◌}
use mathlib.Core.Bool.{true, false}
use Rattle.h261_validity.proofs.Steps.{intra_yes, intra_no, coded, coded_no, uncoded}
use Rattle.h261_validity.proofs.macroblock.valid_levels.Goals as goal

pub returns-then-all_levels : goal.returns-then-all_levels
returns-then-all_levels c =
    intra_yes c.args.kind c.args.bytes.now (sym c.is_intra.ensures ∙ c.if-is_intra.true)
    (sym c.all_levels.ensures ∙ c.if-all_levels.true) _ c.codes_first.ensures

pub returns-then-is_intra : goal.returns-then-is_intra
returns-then-is_intra c =
    intra_no c.args.kind c.args.bytes.now (sym c.is_intra.ensures ∙ c.if-is_intra.true)
    (sym c.all_levels.ensures ∙ c.if-all_levels.false)

pub returns-then-all_zero : goal.returns-then-all_zero
returns-then-all_zero c =
    coded c.args.kind c.args.bytes.now (sym c.is_intra.ensures ∙ c.if-is_intra.false)
    (sym c.has_cbp.ensures ∙ c.if-has_cbp.true)
    (sym c.all_levels-then-has_cbp.ensures ∙ c.if-all_levels-2.true) true (sym c.all_zero.ensures ∙ c.if-all_zero.true)

pub returns-then-all_levels-2 : goal.returns-then-all_levels-2
returns-then-all_levels-2 c =
    coded c.args.kind c.args.bytes.now (sym c.is_intra.ensures ∙ c.if-is_intra.false)
    (sym c.has_cbp.ensures ∙ c.if-has_cbp.true)
    (sym c.all_levels-then-has_cbp.ensures ∙ c.if-all_levels-2.true) false (sym c.all_zero.ensures ∙ c.if-all_zero.false)

pub returns-then-has_cbp : goal.returns-then-has_cbp
returns-then-has_cbp c =
    coded_no c.args.kind c.args.bytes.now (sym c.is_intra.ensures ∙ c.if-is_intra.false)
    (sym c.has_cbp.ensures ∙ c.if-has_cbp.true) (sym c.all_levels-then-has_cbp.ensures ∙ c.if-all_levels-2.false)

pub returns : goal.returns
returns c =
    uncoded c.args.kind c.args.bytes.now (sym c.is_intra.ensures ∙ c.if-is_intra.false)
    (sym c.has_cbp.ensures ∙ c.if-has_cbp.false) _ c.all_zero-2.ensures
