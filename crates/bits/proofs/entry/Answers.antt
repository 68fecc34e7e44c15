-- `bits::entry` meets its contract: the window's first bits are the entry's number, and the table has as many entries as they have numbers.
use mathlib.Core.Path.{◌≡◌, ap}
use Prim.Native.Nat.{ℕ, ◌+◌, ◌-◌, ◌/◌, ◌^◌, ◌<◌}
use lib.ListN.{get_or}
use borrow.Author.Tests.{lt-ltb, le-ltb}
use borrow.Author.Rules.{rules}
use Rattle.bits.specs.Bits.{value}
use Rattle.bits.proofs.Value.{value-lt, window_first}
use Rattle.bits.proofs.entry.Goals as goal
use Rattle.bits.proofs.entry.Goals.{After-window}

number : (c : After-window) → let a = c.args in c.window.result / 2 ^ (24 - a.width) ≡ value a.bytes.now a.at a.width
number c =
    let a = c.args in
    window_first a.bytes.now a.at c.window.result a.width c.window.ensures c.requires.short

below : (c : After-window) → let a = c.args in c.window.result / 2 ^ (24 - a.width) < 2 ^ a.width
below c = let a = c.args in rw (number c) (value-lt a.bytes.now a.at a.width)

pub returns-then-count-at : goal.returns-then-count-at
returns-then-count-at c = rw (lt-ltb _ _ c.if-count-at.true)

pub bounds-table-from : goal.bounds-table-from
bounds-table-from c = let b = below (goal.at.bounds-table-from c).After-window in search rules

pub returns : goal.returns
returns c =
    let a = c.args in
    rw (le-ltb _ _ c.if-count-at.false) (ap (λ (x : ℕ). get_or a.table.now (a.from + x) 0) (number (goal.at.returns c).After-window))
