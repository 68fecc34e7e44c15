-- `capture::lock` meets its contract: what is looked for from here on is what was looked for from the start.
use mathlib.Core.Path.{refl, sym, ◌∙◌}
use native.Mathlib.Omega.{arith}
use Rattle.capture.proofs.Locks.{lock_here, lock_later, lock_none, lock_short}
use Rattle.capture.proofs.lock.Goals as goal

pub loop-at-init : goal.loop-at-init
loop-at-init c = refl

pub returns-then-count-at-le11776 : goal.returns-then-count-at-le11776
returns-then-count-at-le11776 c =
    let a = c.args in
    let l = c.loop-at in
    lock_short a.capture.now a.count l.at c.if-count-at-le11776.true ∙ l.invariant

pub returns-then-framed : goal.returns-then-framed
returns-then-framed c =
    let a = c.args in
    let l = c.loop-at in
    lock_here a.capture.now a.count l.at (omega arith) (sym c.if-framed.true ∙ c.framed.ensures) ∙ l.invariant

pub loop-at-preserved : goal.loop-at-preserved
loop-at-preserved c =
    let a = c.args in
    let l = c.loop-at in
    lock_later a.capture.now a.count l.at (omega arith) (sym c.if-framed.false ∙ c.framed.ensures) ∙ l.invariant

pub returns : goal.returns
returns c =
    let a = c.args in
    let l = c.loop-at in
    lock_none a.capture.now a.count l.at (omega arith) ∙ l.invariant
