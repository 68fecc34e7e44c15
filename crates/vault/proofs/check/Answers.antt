-- `vault::check` meets its contract: at each `return` the tests that led there. Assumes nothing.
use borrow.Author.Tests.{eq-eqb, ne_eqb, not-true, not-false}
use mathlib.Core.Path.{sym, ap, ◌∙◌}
use Rattle.refusals.specs.Number.{number, read_table}
use Rattle.vault.specs.Block.{told_checked, check_of}
use Rattle.vault.proofs.check.Goals as goal

pub returns-then-block-ne512 : goal.returns-then-block-ne512
unfolding check_of number read_table
returns-then-block-ne512 c = simp (ne_eqb _ _ c.if-block-ne512.true) (ap told_checked c.refused.ensures)

pub returns-then-summed-said : goal.returns-then-summed-said
unfolding check_of number read_table
returns-then-summed-said c =
    simp (eq-eqb _ _ c.if-block-ne512.false, ne_eqb _ _ (λ e. c.if-summed-said.true (c.sum-summed.ensures ∙ e ∙ sym c.pair-said.ensures)))
    (ap told_checked c.refused-then-summed-said.ensures)

pub returns-then-not-follows : goal.returns-then-not-follows
unfolding check_of number read_table
returns-then-not-follows c =
    simp (
      eq-eqb _ _ c.if-block-ne512.false,
      eq-eqb _ _ (sym c.sum-summed.ensures ∙ c.if-summed-said.false ∙ c.pair-said.ensures),
      sym c.follows.ensures ∙ not-true _ c.if-not-follows.true-raw,
    )
    (ap told_checked c.refused-then-not-follows.ensures)

pub returns : goal.returns
unfolding check_of
returns c =
    simp (
      eq-eqb _ _ c.if-block-ne512.false,
      eq-eqb _ _ (sym c.sum-summed.ensures ∙ c.if-summed-said.false ∙ c.pair-said.ensures),
      sym c.follows.ensures ∙ not-false _ c.if-not-follows.false-raw,
      c.header_of-header.ensures,
    )
