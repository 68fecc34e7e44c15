-- `capture::put_data` meets its contract: twelve bits, then 24 a turn, each run after the one before it.
use mathlib.Core.Path.{◌≡◌, refl, ap, ◌∙◌}
use mathlib.Core.List.{List}
use Prim.Native.Nat.{ℕ, ◌+◌, ◌*◌, ◌/◌, ◌≤◌}
use native.Mathlib.Omega.{arith}
use lib.Dec.{lit≤}
use lib.ListN.{length}
use Rattle.bits.specs.Bits.{bits_of, bits_from}
use Rattle.bits.specs.Write.{bytes_with}
use Rattle.bits.proofs.Value.{value-lt}
use Rattle.capture.proofs.Gather.{put_size, first_put, more_put}
use Rattle.capture.proofs.put_data.Goals as goal

pub put-requires : goal.put-requires
put-requires c =
    let a = c.args in
    let room : a.to + 12 ≤ 8 * length a.out.now = omega (arith, c.requires.0) in
    (record { some = lit≤ tt; short = lit≤ tt; small = omega (arith, c.window.ensures, value-lt a.frame.now 2 24) }, room)

pub loop-i-init : goal.loop-i-init
loop-i-init c = (refl, λ first room e. e)

pub put-requires-in-loop-i : goal.put-requires-in-loop-i
put-requires-in-loop-i c =
    let a = c.args in
    let l = c.loop-i in
    let size = put_size a.out.now a.to 12 (c.window.result / 4096) c.put.new.out c.put.ensures (omega (arith, c.requires.0)) in
    let room : a.to + 12 + 24 * l.i + 24 ≤ 8 * length l.out = omega (arith, size, l.invariant.0, c.requires.0) in
    (record { some = lit≤ tt; short = lit≤ tt; small = omega (arith, c.window-in-loop-i.ensures, value-lt a.frame.now (14 + 24 * l.i) 24) }, room)

pub loop-i-preserved : goal.loop-i-preserved
loop-i-preserved c =
    let a = c.args in
    let l = c.loop-i in
    let q = c.put-in-loop-i in
    let w = c.window-in-loop-i in
    let size = put_size a.out.now a.to 12 (c.window.result / 4096) c.put.new.out c.put.ensures (omega (arith, c.requires.0)) in (
      put_size l.out (a.to + 12 + 24 * l.i) 24 w.result q.new.out q.ensures (omega (arith, size, l.invariant.0, c.requires.0)) ∙ l.invariant.0,
      λ first room e.
          q.ensures ∙ ap (λ (o : List ℕ). bytes_with o (a.to + 12 + 24 * l.i) (bits_of 24 w.result)) (l.invariant.1 first room e)
          ∙ more_put a.frame.now first a.to l.i w.result room (omega arith) w.ensures,
    )

pub returns : goal.returns
returns c =
    let a = c.args in
    let l = c.loop-i in
    let all : l.i ≡ 20 = omega arith in
    l.invariant.1 a.out.now c.requires.0 (c.put.ensures ∙ first_put a.frame.now a.out.now a.to c.window.result c.window.ensures)
    ∙ ap (λ (i : ℕ). bytes_with a.out.now a.to (bits_from a.frame.now 2 (12 + 24 * i))) all
