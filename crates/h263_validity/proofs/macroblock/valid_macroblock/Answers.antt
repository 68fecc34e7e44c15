-- `h263_validity::macroblock::valid_macroblock` meets its contract: type, DQUANT, vector and levels are tested in this order. Assumes nothing.
use borrow.Author.Tests.{not-true, not-false}
use Rattle.laws.proofs.Choice.{stop, pass}
use Rattle.h263_validity.proofs.Steps.{macroblock_is, tested}
use Rattle.h263_validity.proofs.macroblock.valid_macroblock.Goals as goal

pub returns-then-not-valid_type : goal.returns-then-not-valid_type
returns-then-not-valid_type c =
    let a = c.args in
    macroblock_is a.size a.intra a.number a.address a.fields.now a.levels.now (stop _ (tested c.valid_type.ensures (not-true _ c.if-not-valid_type.true-raw)))

pub returns-then-not-valid_dquant : goal.returns-then-not-valid_dquant
returns-then-not-valid_dquant c =
    let a = c.args in
    macroblock_is a.size a.intra a.number a.address a.fields.now a.levels.now
    (pass (tested c.valid_type.ensures (not-false _ c.if-not-valid_type.false-raw))
    (stop _ (tested c.valid_dquant.ensures (not-true _ c.if-not-valid_dquant.true-raw))))

pub returns-then-not-valid_vector : goal.returns-then-not-valid_vector
returns-then-not-valid_vector c =
    let a = c.args in
    macroblock_is a.size a.intra a.number a.address a.fields.now a.levels.now
    (pass (tested c.valid_type.ensures (not-false _ c.if-not-valid_type.false-raw))
    (pass (tested c.valid_dquant.ensures (not-false _ c.if-not-valid_dquant.false-raw))
    (stop _ (tested c.valid_vector.ensures (not-true _ c.if-not-valid_vector.true-raw)))))

pub returns : goal.returns
returns c =
    let a = c.args in
    macroblock_is a.size a.intra a.number a.address a.fields.now a.levels.now
    (pass (tested c.valid_type.ensures (not-false _ c.if-not-valid_type.false-raw))
    (pass (tested c.valid_dquant.ensures (not-false _ c.if-not-valid_dquant.false-raw))
    (pass (tested c.valid_vector.ensures (not-false _ c.if-not-valid_vector.false-raw)) c.valid_levels.ensures)))
