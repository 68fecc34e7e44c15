-- `capture::from_lock` meets its contract: frame after frame, what is written so far and what the frames left give are all.
use mathlib.Core.Path.{◌≡◌}
use Prim.Native.Nat.{ℕ, ◌+◌, ◌-◌, ◌*◌, ◌/◌, ◌≤◌}
use native.Mathlib.Omega.{arith}
use Rattle.capture.proofs.Replays.{going_at, going_first, bits_room, bits_few, told_room, unmended_apart, going_next, going_done, going_cut}
use Rattle.capture.proofs.from_lock.Goals as goal

pub loop-n-init : goal.loop-n-init
loop-n-init c =
    let a = c.args in
    going_at (omega arith) (going_first a.capture.now a.count a.lock a.out.now a.places.now c.requires.inside)

pub step-came-requires : goal.step-came-requires
step-came-requires c =
    let l = c.loop-n in
    let more : c.args.lock + 512 * l.n + 512 ≤ c.args.count = omega (arith, c.loop-n-test.true, c.requires.inside) in
    record {
      table = c.byte_steps-steps.ensures;
      whole = omega (arith, c.requires.lent);
      room = bits_room c.requires l.invariant more;
      end_fits = omega (arith, c.ranges.count);
      last_fits = omega (arith, c.ranges.count, bits_few l.invariant);
    }

pub counted-tally-requires : goal.counted-tally-requires
counted-tally-requires c =
    let l = c.loop-n in
    let more : c.args.lock + 512 * l.n + 512 ≤ c.args.count = omega (arith, c.loop-n-test.true, c.requires.inside) in
    (told_room c.requires l.invariant (omega arith), λ e. omega (arith, c.ranges.count, bits_few l.invariant))

pub loop-n-preserved : goal.loop-n-preserved
loop-n-preserved c =
    let l = c.loop-n in
    let s = c.step-came in
    let k = c.counted-tally in
    going_at (omega arith)
    (going_next c.requires l.invariant (omega (arith, c.loop-n-test.true, c.requires.inside)) s.result k.result _ _
    s.ensures.value s.ensures.out_after k.ensures.value k.ensures.places_after)

-- all whole frames are done
done : (lock count : ℕ) {n : ℕ} → n ≤ (count - lock) / 512 → (count - lock) / 512 ≤ n → lock + 512 * n ≡ lock + 512 * ((count - lock) / 512)
done lock count l m = omega (arith, l, m)

pub counted-tally-requires-then-cut-count : goal.counted-tally-requires-then-cut-count
counted-tally-requires-then-cut-count c =
    let g = going_at (done c.args.lock c.args.count c.loop-n.auto.n-end c.loop-n-test.false) c.loop-n.invariant in
    (told_room c.requires g c.if-cut-count.true, λ e. absurd (unmended_apart e))

pub returns-then-cut-count : goal.returns-then-cut-count
returns-then-cut-count c =
    let k = c.counted-tally-then-cut-count in
    let g = going_at (done c.args.lock c.args.count c.loop-n.auto.n-end c.loop-n-test.false) c.loop-n.invariant in
    going_cut c.requires g c.if-cut-count.true (omega (arith, c.requires.inside)) k.result _ k.ensures.value k.ensures.places_after

pub returns-else-cut-count : goal.returns-else-cut-count
returns-else-cut-count c =
    going_done c.requires (going_at (done c.args.lock c.args.count c.loop-n.auto.n-end c.loop-n-test.false) c.loop-n.invariant) c.if-cut-count.false
