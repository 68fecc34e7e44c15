-- `vault::ruled` meets its contract: at each `return` the tests that led there. Assumes nothing.
use borrow.Author.Tests.{lt-ltb, le-ltb, le-leb, lt-leb, not-true, not-false}
use mathlib.Core.Path.{sym, ◌∙◌}
use Rattle.vault.specs.Block.{header_ruled}
use Rattle.vault.proofs.ruled.Goals as goal

pub returns-then-header-lt1 : goal.returns-then-header-lt1
unfolding header_ruled
returns-then-header-lt1 c = simp (lt-leb _ _ c.if-header-lt1.true)

pub returns-then-header-ge-PICTURES : goal.returns-then-header-ge-PICTURES
unfolding header_ruled
returns-then-header-ge-PICTURES c = simp (le-leb _ _ c.if-header-lt1.false, le-ltb _ _ c.if-header-ge-PICTURES.true)

pub returns-then-greatest_part-header : goal.returns-then-greatest_part-header
unfolding header_ruled
returns-then-greatest_part-header c =
    simp (le-leb _ _ c.if-header-lt1.false, lt-ltb _ _ c.if-header-ge-PICTURES.false, lt-leb _ _ (rw c.greatest_part.ensures at c.if-greatest_part-header.true))

pub returns-then-not-refresh_rule : goal.returns-then-not-refresh_rule
unfolding header_ruled
returns-then-not-refresh_rule c =
    simp (
      le-leb _ _ c.if-header-lt1.false,
      lt-ltb _ _ c.if-header-ge-PICTURES.false,
      le-leb _ _ (rw c.greatest_part.ensures at c.if-greatest_part-header.false),
      sym c.refresh_rule.ensures ∙ not-true _ c.if-not-refresh_rule.true-raw,
    )

pub returns : goal.returns
unfolding header_ruled
returns c =
    simp (
      le-leb _ _ c.if-header-lt1.false,
      lt-ltb _ _ c.if-header-ge-PICTURES.false,
      le-leb _ _ (rw c.greatest_part.ensures at c.if-greatest_part-header.false),
      sym c.refresh_rule.ensures ∙ not-false _ c.if-not-refresh_rule.false-raw,
    )
    c.used_rule.ensures
