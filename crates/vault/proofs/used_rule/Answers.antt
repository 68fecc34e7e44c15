-- `vault::used_rule` meets its contract: at each `return` the tests that led there. Assumes nothing.
use borrow.Author.Tests.{le-leb, lt-leb}
use mathlib.Core.Path.{◌≡◌}
use Prim.Native.Nat.{◌≤◌}
use mathlib.Core.Bool.{false}
use lib.Dec.{eqb}
use Rattle.vault.specs.declared.Header.{Header}
use Rattle.vault.specs.Block.{used_rule}
use Rattle.vault.proofs.used_rule.Goals as goal

unless_last : (header : Header) → 1 ≤ header.used → header.used ≤ 4000 → header.last ≡ false → eqb header.used 4000 ≡ used_rule header
unless_last header l m e = rw (le-leb 1 header.used l, le-leb header.used 4000 m, e)

pub returns-then-header-lt1 : goal.returns-then-header-lt1
returns-then-header-lt1 c = simp (lt-leb _ _ c.if-header-lt1.true)

pub returns-then-header-gt4000 : goal.returns-then-header-gt4000
returns-then-header-gt4000 c = simp (le-leb _ _ c.if-header-lt1.false, lt-leb _ _ c.if-header-gt4000.true)

pub returns-then-header : goal.returns-then-header
returns-then-header c = simp (le-leb _ _ c.if-header-lt1.false, le-leb _ _ c.if-header-gt4000.false, c.if-header.true)

pub returns : goal.returns
returns c =
    unless_last c.args.header c.if-header-lt1.false c.if-header-gt4000.false c.if-header.false
