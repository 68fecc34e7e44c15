-- `h261_layers::macroblock::pattern` meets its contract: CBP, where the type has it; else all blocks or none.
use Rattle.h261_layers.proofs.MacroblockSteps.{optional_there, pattern_none, pattern_all}
use Rattle.laws.specs.Choice.{pick}
use Rattle.h261_words.specs.Words.{has_cbp, is_intra}
use Rattle.h261_words.specs.Tables.{table4}
use Rattle.bits.specs.Code.{word}
use native.Mathlib.Omega.{arith}
use Rattle.bits.proofs.Once.{once_word}
use Rattle.fields.proofs.Told.{number_once}
use Rattle.h261_layers.proofs.macroblock.pattern.Goals as goal

pub cbp-requires : goal.cbp-requires
cbp-requires c = (c.requires.tabled, c.requires.placed.within)

pub once-requires : goal.once-requires
once-requires c = let l = c.requires.placed.countable in omega arith

pub returns-then-has_cbp : goal.returns-then-has_cbp
returns-then-has_cbp c =
    let mtype = c.args.mtype in
    optional_there (has_cbp mtype) c.has_cbp.result (pick (is_intra mtype) 63 0) (word table4) _ _ c.has_cbp.ensures _ c.if-has_cbp.true
    (number_once (once_word table4) _ _ _ c.cbp.result c.once.ensures c.cbp.ensures)

pub returns-then-is_intra : goal.returns-then-is_intra
returns-then-is_intra c =
    pattern_all c.args.mtype _ _ _ _ c.has_cbp.ensures c.is_intra.ensures c.if-has_cbp.false c.if-is_intra.true

pub returns : goal.returns
returns c =
    pattern_none c.args.mtype _ _ _ _ c.has_cbp.ensures c.is_intra.ensures c.if-has_cbp.false c.if-is_intra.false
