-- `capture::gathered` meets its contract: three bytes a turn, each eight bits of the capture.
use mathlib.Core.Path.{◌≡◌, refl, ap, subst, ◌∙◌}
use mathlib.Core.List.{List}
use Prim.Native.Nat.{ℕ, ◌+◌, ◌*◌, ◌/◌, ◌≤◌}
use native.Mathlib.Omega.{arith}
use lib.Dec.{lit<}
use Rattle.bits.proofs.Value.{value-lt, value_first}
use Rattle.capture.proofs.Gather.{Gathered, none_gathered, one_gathered, three_gathered, all_gathered}
use Rattle.capture.proofs.gathered.Goals as goal

upto : {s f : List ℕ} {at : ℕ} (i : ℕ) → 21 ≤ i → i ≤ 21 → Gathered s at (3 * i) f → Gathered s at 63 f
upto {s} {f} {at} i l m g = let e : 3 * i ≡ 63 = omega arith in subst (λ (n : ℕ). Gathered s at n f) e g

pub loop-i-init : goal.loop-i-init
loop-i-init c = none_gathered c.args.capture.now c.args.at _ refl

pub overflow_cast-frame : goal.overflow_cast-frame
overflow_cast-frame c =
    let a = c.args in
    omega (arith, c.window-three.ensures, value-lt a.capture.now (a.at + 24 * c.loop-i.i) 24)

pub loop-i-preserved : goal.loop-i-preserved
loop-i-preserved c =
    let l = c.loop-i in
    let a = c.args in
    three_gathered a.capture.now a.at l.i c.window-three.result l.frame (omega arith) c.window-three.ensures l.invariant

pub overflow_cast-frame-2 : goal.overflow_cast-frame-2
overflow_cast-frame-2 c =
    let a = c.args in
    omega (arith, c.window.ensures, value-lt a.capture.now (a.at + 504) 24)

pub returns : goal.returns
returns c =
    let l = c.loop-i in
    let a = c.args in
    all_gathered a.capture.now a.at _
    (one_gathered a.capture.now a.at 63 64 (c.window.result / 65536) l.frame (lit< tt) refl (upto l.i (omega arith) (omega arith) l.invariant)
    (ap (λ (w : ℕ). w / 65536) c.window.ensures ∙ value_first a.capture.now (a.at + 504) 8 16))
