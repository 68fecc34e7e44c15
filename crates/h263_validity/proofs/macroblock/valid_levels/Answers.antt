-- `h263_validity::macroblock::valid_levels` meets its contract: by the type, the tests of its levels. Assumes nothing.
use Rattle.h263_validity.proofs.Steps.{intra_yes, intra_no, inter_any, unsent_none, tested}
use Rattle.h263_validity.proofs.macroblock.valid_levels.Goals as goal

pub returns-then-all_levels : goal.returns-then-all_levels
returns-then-all_levels c =
    intra_yes c.args.kind c.args.bytes.now (tested c.is_intra.ensures c.if-is_intra.true)
    (tested c.all_levels.ensures c.if-all_levels.true) _ c.codes_first.ensures

pub returns-then-is_intra : goal.returns-then-is_intra
returns-then-is_intra c =
    intra_no c.args.kind c.args.bytes.now (tested c.is_intra.ensures c.if-is_intra.true)
    (tested c.all_levels.ensures c.if-all_levels.false)

pub returns-then-is_inter : goal.returns-then-is_inter
returns-then-is_inter c =
    inter_any c.args.kind c.args.bytes.now (tested c.is_intra.ensures c.if-is_intra.false)
    (tested c.is_inter.ensures c.if-is_inter.true) _ c.all_levels-then-is_inter.ensures

pub returns : goal.returns
returns c =
    unsent_none c.args.kind c.args.bytes.now (tested c.is_intra.ensures c.if-is_intra.false)
    (tested c.is_inter.ensures c.if-is_inter.false) _ c.all_zero.ensures
