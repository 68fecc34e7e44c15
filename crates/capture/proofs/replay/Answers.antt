-- `capture::replay` meets its contract: by the lengths, then the count, then the lock.
use mathlib.Core.Path.{sym, ap, subst, ◌∙◌}
use Prim.Native.Nat.{◌*◌, ◌≤◌}
use native.Mathlib.Omega.{arith}
use lib.ListN.{length}
use Rattle.capture.specs.Step.{as_lock}
use Rattle.capture.specs.Replay.{ReplayDoes}
use Rattle.capture.specs.declared.Replayed.{Replayed}
use Rattle.refusals.specs.declared.Refusal.{Refusal}
use Rattle.std.specs.Prelude.{Result}
use Rattle.capture.proofs.Locks.{lock_inside}
use Rattle.capture.proofs.Answers.{other_output, other_list, past_slice, nowhere_locked, locked_at}
use Rattle.capture.proofs.replay.Goals as goal

pub returns-then-out-capture : goal.returns-then-out-capture
returns-then-out-capture c =
    let a = c.args in
    subst (λ (r : Result Replayed Refusal). ReplayDoes a.capture.now a.count a.out.now a.places.now r a.out.now a.places.now) (sym c.refused.ensures)
    (other_output a.capture.now a.count a.out.now a.places.now c.if-out-capture.true)

pub returns-then-places-capture : goal.returns-then-places-capture
returns-then-places-capture c =
    let a = c.args in
    subst (λ (r : Result Replayed Refusal). ReplayDoes a.capture.now a.count a.out.now a.places.now r a.out.now a.places.now) (sym c.refused-then-places-capture.ensures)
    (other_list a.capture.now a.count a.out.now a.places.now c.if-places-capture.true)

pub returns-then-capture-started : goal.returns-then-capture-started
returns-then-capture-started c =
    let a = c.args in
    subst (λ (r : Result Replayed Refusal). ReplayDoes a.capture.now a.count a.out.now a.places.now r a.out.now a.places.now) (sym c.refused-then-capture-started.ensures)
    (past_slice a.capture.now a.count a.out.now a.places.now c.if-out-capture.false c.if-places-capture.false
    (omega (arith, c.if-capture-started.true, c.started.ensures)))

pub from_lock-requires : goal.from_lock-requires
from_lock-requires c =
    let a = c.args in
    record {
      lent = omega (arith, c.if-capture-started.false, c.started.ensures);
      inside = lock_inside a.capture.now a.count c.in-Some.place (ap as_lock (sym c.in-Some.is) ∙ c.lock-found.ensures);
      room = c.if-out-capture.false;
      entries = c.if-places-capture.false;
    }

pub returns-in-Some : goal.returns-in-Some
returns-in-Some c =
    let a = c.args in
    let lent : a.count ≤ 8 * length a.capture.now = omega (arith, c.if-capture-started.false, c.started.ensures) in
    locked_at a.capture.now a.count a.out.now a.places.now c.if-out-capture.false c.if-places-capture.false lent c.in-Some.place
    c.from_lock.result _ _ (ap as_lock (sym c.in-Some.is) ∙ c.lock-found.ensures) c.from_lock.ensures

pub returns-in-None : goal.returns-in-None
returns-in-None c =
    let lent : c.args.count ≤ 8 * length c.args.capture.now = omega (arith, c.if-capture-started.false, c.started.ensures) in
    let a = c.args in
    subst (λ (r : Result Replayed Refusal). ReplayDoes a.capture.now a.count a.out.now a.places.now r a.out.now a.places.now) (sym c.refused-in-None.ensures)
    (nowhere_locked a.capture.now a.count a.out.now a.places.now c.if-out-capture.false c.if-places-capture.false lent
    (ap as_lock (sym c.in-None.is) ∙ c.lock-found.ensures))
