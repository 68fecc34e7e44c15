-- `salvaging::rewrite` meets its contract: block after block, what is written and entered so far and what the answers to come give are all. Assumes nothing.
use mathlib.Core.Path.{refl}
use Prim.Native.Nat.{ℕ, ◌*◌, ◌/◌, ◌<◌}
use native.Mathlib.Omega.{arith}
use Rattle.standing.specs.Receive.{buffers}
use Rattle.salvaging.specs.Log.{told_entries}
use Rattle.salvaging.proofs.Going.{next_inside, in_next, lengths_same, lengths_turn, call_collects, going_first, going_at, few_tally, block_room, entry_room, going_next, going_done}
use Rattle.salvaging.proofs.rewrite.Goals as goal

more : {n long : ℕ} → n < long / 512 → 512 * n < long
more l = omega (arith, l)

pub loop-n-init : goal.loop-n-init
loop-n-init c =
    let a = c.args in
    (going_first a.clip a.blocks.now a.opened (buffers a.collection.now a.first.now a.second.now) a.out.now a.log.now c.requires.whole, record { collection = refl; first = refl; second = refl })

pub settled-fate-requires : goal.settled-fate-requires
settled-fate-requires c =
    record {
      place = in_next c.loop-n.invariant.0.place (more c.loop-n-test.true);
      same =
          lengths_same (lengths_turn (lengths_same c.loop-n.invariant.0.same (record { collection = c.collection-1.given; first = c.first-1.given; second = c.second-1.given })))
          (lengths_same c.requires.same c.loop-n.invariant.1);
      collects = call_collects {gave = c.receive-received.result} (record { does = c.receive-received.ensures });
    }

pub write-written-requires : goal.write-written-requires
write-written-requires c =
    block_room c.loop-n.invariant.0 (more c.loop-n-test.true) c.receive-received.result (record { does = c.receive-received.ensures }) c.settled-fate.ensures c.is_kept-later.ensures c.goes_on-goes.ensures
    c.requires.out_room

pub enter-entered-requires : goal.enter-entered-requires
enter-entered-requires c =
    entry_room c.loop-n.invariant.0 (more c.loop-n-test.true) c.receive-received.result (record { does = c.receive-received.ensures }) c.settled-fate.ensures c.is_kept-later.ensures (omega arith)
    (told_entries c.entries_for-entries.result) c.entries_for-entries.ensures c.requires.log_room

pub count-tally-requires : goal.count-tally-requires
count-tally-requires c =
    let few = few_tally c.loop-n.invariant.0 (more c.loop-n-test.true) c.receive-received.result (record { does = c.receive-received.ensures }) in
    omega (arith, few, next_inside c.loop-n.invariant.0.place (more c.loop-n-test.true))

pub loop-n-preserved : goal.loop-n-preserved
loop-n-preserved c = (
  going_at (omega arith) (going_next c.loop-n.invariant.0 (more c.loop-n-test.true) c.receive-received.result (record { does = c.receive-received.ensures }) c.settled-fate.ensures c.is_kept-later.ensures (omega arith)
      (told_entries c.entries_for-entries.result) c.entries_for-entries.ensures c.goes_on-goes.ensures c.requires.out_room c.requires.log_room
      (record { collection = c.collection-1.given; first = c.first-1.given; second = c.second-1.given }) c.count-tally.ensures c.write-written.ensures.value c.write-written.ensures.out_after c.out-1.given
      c.enter-entered.ensures.value c.enter-entered.ensures.log_after c.log-1.given),
  lengths_same c.loop-n.invariant.1 (record { collection = c.collection_ahead-1.given; first = c.first_ahead-1.given; second = c.second_ahead-1.given }),
)

pub returns : goal.returns
returns c = going_done c.loop-n.invariant.0 (omega (arith, c.requires.whole, c.loop-n-test.false))
