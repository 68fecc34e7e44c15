-- `h261_validity::macroblock::valid_macroblock` meets its contract: type, MQUANT, vector and levels are tested in this order. Assumes nothing.
use borrow.Author.Tests.{not-true, not-false}
use Rattle.h261_validity.proofs.Steps.{macroblock_type, macroblock_mquant, macroblock_vector, macroblock_yes}
use Rattle.h261_validity.proofs.macroblock.valid_macroblock.Goals as goal

pub returns-then-kind-gt10 : goal.returns-then-kind-gt10
returns-then-kind-gt10 c =
    macroblock_type c.args.format c.args.number c.args.address c.args.fields.now c.args.levels.now c.if-kind-gt10.true

pub returns-then-not-valid_mquant : goal.returns-then-not-valid_mquant
returns-then-not-valid_mquant c =
    macroblock_mquant c.args.format c.args.number c.args.address c.args.fields.now c.args.levels.now c.if-kind-gt10.false _
    c.valid_mquant.ensures (not-true _ c.if-not-valid_mquant.true-raw)

pub returns-then-not-valid_vector : goal.returns-then-not-valid_vector
returns-then-not-valid_vector c =
    macroblock_vector c.args.format c.args.number c.args.address c.args.fields.now c.args.levels.now
    c.if-kind-gt10.false _ c.valid_mquant.ensures (not-false _ c.if-not-valid_mquant.false-raw) _
    c.valid_vector.ensures (not-true _ c.if-not-valid_vector.true-raw)

pub returns : goal.returns
returns c =
    macroblock_yes c.args.format c.args.number c.args.address c.args.fields.now c.args.levels.now c.if-kind-gt10.false _
    c.valid_mquant.ensures (not-false _ c.if-not-valid_mquant.false-raw) _ c.valid_vector.ensures (not-false _ c.if-not-valid_vector.false-raw)
    _ c.valid_levels.ensures
