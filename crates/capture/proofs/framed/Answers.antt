-- `capture::framed` meets its contract: bit after bit, what is left of the pattern is asked of what is left of the capture.
use mathlib.Core.Path.{◌≡◌, sym, ap, ◌∙◌}
use Prim.Native.Nat.{ℕ, ◌+◌, ◌-◌, ◌*◌}
use native.Mathlib.Nat.{add-zero}
use native.Mathlib.Omega.{arith}
use Rattle.bits.specs.Bits.{bits_left}
use Rattle.capture.specs.Capture.{pattern, framed_by}
use Rattle.capture.proofs.Locks.{framed_next, framed_other, framed_all}
use Rattle.capture.proofs.framed.Goals as goal

pub loop-k-init : goal.loop-k-init
loop-k-init c =
    let a = c.args in
    ap (λ (i : ℕ). framed_by pattern (bits_left a.capture.now a.count i)) (sym (add-zero a.at))

pub returns-then-bit-after : goal.returns-then-bit-after
returns-then-bit-after c =
    let l = c.loop-k in
    let a = c.args in
    sym (l.invariant ∙ framed_other a.capture.now a.count a.at 1776411 l.k 24 (omega arith) (omega arith) (λ e. c.if-bit-after.true (c.bit.ensures ∙ e)))

pub loop-k-preserved : goal.loop-k-preserved
loop-k-preserved c =
    let l = c.loop-k in
    let a = c.args in
    l.invariant ∙ framed_next a.capture.now a.count a.at 1776411 l.k 24 (omega arith) (omega arith) (sym c.bit.ensures ∙ c.if-bit-after.false)

pub returns : goal.returns
returns c =
    let l = c.loop-k in
    let a = c.args in
    let none : 24 - l.k ≡ 0 = omega arith in
    sym (l.invariant ∙ framed_all (24 - l.k) 1776411 (bits_left a.capture.now a.count (a.at + 512 * l.k)) none)
