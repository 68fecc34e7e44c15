-- `h261_layers::block::coefficients` meets its contract: each turn of the loop reads a coefficient into the levels, or EOB, or the refusal.
use mathlib.Core.Path.{refl, sym, ap, ◌∙◌}
use native.Mathlib.Omega.{arith}
use lib.ListN.{length-set}
use Rattle.h261_words.specs.Answer.{as_coefficient}
use Rattle.fields.specs.Answer.{leaving}
use Rattle.fields.specs.declared.CountedRead.{CountedRead}
use Rattle.h261_layers.proofs.CoefficientsTurn.{coefficients_first, coefficients_end, coefficients_past, coefficients_next, coefficients_more}
use borrow.Enum.Refused.{opened}
use Rattle.h261_layers.proofs.block.coefficients.Goals as goal

pub loop-run-init : goal.loop-run-init
loop-run-init c = (refl, coefficients_first _ _ _ _ _ _ _ c.requires.0.placed c.requires.1.forward)

pub coefficient-read-requires : goal.coefficient-read-requires
coefficient-read-requires c =
    (c.requires.0.tabled, c.loop-run.invariant.1.placed.within)

pub overflow_add-reads : goal.overflow_add-reads
overflow_add-reads c = let l = c.loop-run.invariant.1.placed.countable in omega arith

pub returns-in_default : goal.returns-in_default
returns-in_default c =
    ap (λ (r : CountedRead (Unit {0})). leaving c.args.bytes.now c.args.count r c.loop-run.levels) c.block_end.ensures
    ∙ coefficients_end c.loop-run.invariant.1 c.coefficient-read.result (opened c.in_default.in_default-own.keys2) c.coefficient-read.ensures

pub returns-then-end-to : goal.returns-then-end-to
returns-then-end-to c =
    coefficients_past c.loop-run.invariant.1 (sym (ap (as_coefficient _ _) c.in-Coefficient.is) ∙ c.coefficient-read.ensures) c.if-end-to.true

pub loop-run-smaller : goal.loop-run-smaller
loop-run-smaller c =
    let w = coefficients_next c.loop-run.invariant.1 (sym (ap (as_coefficient _ _) c.in-Coefficient.is) ∙ c.coefficient-read.ensures) in
    omega arith

pub loop-run-preserved : goal.loop-run-preserved
loop-run-preserved c =
    let inv = c.loop-run.invariant in
    (simp length-set inv.0, coefficients_more inv.1 (sym (ap (as_coefficient _ _) c.in-Coefficient.is) ∙ c.coefficient-read.ensures) c.if-end-to.false)
