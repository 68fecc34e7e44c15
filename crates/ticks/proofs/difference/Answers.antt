-- `ticks::difference` meets its contract: by whether the difference is 0. Assumes nothing.
use mathlib.Core.Path.{sym}
use Prim.Native.Nat.{◌+◌, ◌-◌, ◌%◌}
use native.Mathlib.Nat.{mod-lt}
use native.Mathlib.Omega.{arith}
use borrow.Author.Tests.{eq-eqb, ne_eqb}
use Rattle.ticks.specs.Tick.{tr_difference}
use Rattle.ticks.proofs.difference.Goals as goal

pub overflow_sub-up : goal.overflow_sub-up
overflow_sub-up c = omega (arith, mod-lt c.args.before c.requires)

pub returns-then-between-eq0 : goal.returns-then-between-eq0
unfolding tr_difference
returns-then-between-eq0 c = sym (rw (eq-eqb _ _ c.if-between-eq0.true))

pub overflow_cast-result : goal.overflow_cast-result
overflow_cast-result c =
    let a = c.args in
    omega (arith, mod-lt (a.tr + (a.modulus - a.before % a.modulus)) c.requires)

pub returns : goal.returns
unfolding tr_difference
returns c = sym (rw (ne_eqb _ _ c.if-between-eq0.false))
