-- `block::events` meets its contract. The loop's invariant: what is written is the coefficients before the one that waits.
use Prim.Native.Nat.{◌≤◌}
use native.Mathlib.Omega.{arith}
use lib.Dec.{T}
use lib.ListN.{drop}
use Rattle.bits.proofs.Codewords.{word_ready, word_wrote}
use Rattle.layout.specs.Numbers.{all, is_zero}
use Rattle.layout.proofs.Gathered.{zeros_on}
use Rattle.levels.proofs.Zeros.{zeros_within}
use Rattle.h263_writer.proofs.BlockTurn.{events_begin, events_zero, events_asked, events_again, events_empty, last_asked, last_counts, events_end}
use Rattle.h263_writer.proofs.block.events.Goals as goal
use Rattle.h263_writer.proofs.block.events.Goals.{After-append-arg-1, After-event_codeword, After-shared_slice_known-in-loop-k-1-unread, After-slice_known-2-1, After-slice_known-in-loop-k-1, After-waited-arg-1, Then-code-eq0, Then-waiting-eq0}

ends : (c : After-shared_slice_known-in-loop-k-1-unread) → (c.zeros_from-end.result ≤ 64) × T (all is_zero (drop c.zeros_from-end.result c.args.levels.now))
ends c = zeros_within c.args.levels.now c.requires.long c.zeros_from-end.ensures

ends-at2 : (c : Then-code-eq0) → (c.zeros_from-end.result ≤ 64) × T (all is_zero (drop c.zeros_from-end.result c.args.levels.now))
ends-at2 c = zeros_within c.args.levels.now c.requires.long c.zeros_from-end.ensures

ends-at3 : (c : After-waited-arg-1) → (c.zeros_from-end.result ≤ 64) × T (all is_zero (drop c.zeros_from-end.result c.args.levels.now))
ends-at3 c = zeros_within c.args.levels.now c.requires.long c.zeros_from-end.ensures

ends-at4 : (c : After-slice_known-in-loop-k-1) → (c.zeros_from-end.result ≤ 64) × T (all is_zero (drop c.zeros_from-end.result c.args.levels.now))
ends-at4 c = zeros_within c.args.levels.now c.requires.long c.zeros_from-end.ensures

ends-at5 : (c : Then-waiting-eq0) → (c.zeros_from-end.result ≤ 64) × T (all is_zero (drop c.zeros_from-end.result c.args.levels.now))
ends-at5 c = zeros_within c.args.levels.now c.requires.long c.zeros_from-end.ensures

zeros : (c : Then-waiting-eq0) → c.zeros_from-end.result ≤ c.loop-k.k → T (all is_zero (drop c.loop-k.k c.args.levels.now))
zeros c l = zeros_on c.args.levels.now c.zeros_from-end.result c.loop-k.k l (ends-at5 c).1

ends-at6 : (c : After-append-arg-1) → (c.zeros_from-end.result ≤ 64) × T (all is_zero (drop c.zeros_from-end.result c.args.levels.now))
ends-at6 c = zeros_within c.args.levels.now c.requires.long c.zeros_from-end.ensures

zeros-at2 : (c : After-append-arg-1) → c.zeros_from-end.result ≤ c.loop-k.k → T (all is_zero (drop c.loop-k.k c.args.levels.now))
zeros-at2 c l = zeros_on c.args.levels.now c.zeros_from-end.result c.loop-k.k l (ends-at6 c).1

ends-at7 : (c : After-event_codeword) → (c.zeros_from-end.result ≤ 64) × T (all is_zero (drop c.zeros_from-end.result c.args.levels.now))
ends-at7 c = zeros_within c.args.levels.now c.requires.long c.zeros_from-end.ensures

zeros-at3 : (c : After-event_codeword) → c.zeros_from-end.result ≤ c.loop-k.k → T (all is_zero (drop c.loop-k.k c.args.levels.now))
zeros-at3 c l = zeros_on c.args.levels.now c.zeros_from-end.result c.loop-k.k l (ends-at7 c).1

ends-at8 : (c : After-slice_known-2-1) → (c.zeros_from-end.result ≤ 64) × T (all is_zero (drop c.zeros_from-end.result c.args.levels.now))
ends-at8 c = zeros_within c.args.levels.now c.requires.long c.zeros_from-end.ensures

zeros-at4 : (c : After-slice_known-2-1) → c.zeros_from-end.result ≤ c.loop-k.k → T (all is_zero (drop c.loop-k.k c.args.levels.now))
zeros-at4 c l = zeros_on c.args.levels.now c.zeros_from-end.result c.loop-k.k l (ends-at8 c).1

pub zeros_from-end-requires : goal.zeros_from-end-requires
zeros_from-end-requires c = c.requires.long

pub loop-k-init : goal.loop-k-init
loop-k-init c =
    events_begin _ _ _ _ c.requires.near

pub bounds-levels-k : goal.bounds-levels-k
bounds-levels-k c =
    omega (arith, c.requires.long, c.loop-k-test.true, (ends c).0)

pub overflow_add-run : goal.overflow_add-run
overflow_add-run c =
    omega (arith, c.loop-k.invariant.low, c.loop-k-test.true, (ends-at2 c).0)

pub loop-k-preserved-then-code-eq0 : goal.loop-k-preserved-then-code-eq0
loop-k-preserved-then-code-eq0 c = events_zero c.loop-k.invariant c.requires.long (omega (arith, c.loop-k-test.true, (ends-at2 c).0)) c.if-code-eq0.true

pub waited-place-requires : goal.waited-place-requires
waited-place-requires c =
    events_asked c.loop-k.invariant c.requires.long (omega (arith, c.loop-k-test.true, (ends-at3 c).0)) c.if-code-eq0.false c.requires c.requires.counts

pub loop-k-preserved : goal.loop-k-preserved
loop-k-preserved c =
    events_again c.loop-k.invariant c.requires.long (omega (arith, c.loop-k-test.true, (ends-at4 c).0)) c.if-code-eq0.false c.requires.allowed c.waited-place.ensures

pub returns-then-waiting-eq0 : goal.returns-then-waiting-eq0
returns-then-waiting-eq0 c = events_empty c.loop-k.invariant c.requires.long (zeros c c.loop-k-test.false) c.if-waiting-eq0.true

pub event_codeword-requires : goal.event_codeword-requires
event_codeword-requires c =
    last_asked c.loop-k.invariant c.requires.long (zeros-at2 c c.loop-k-test.false) c.if-waiting-eq0.false c.requires

pub append-requires : goal.append-requires
append-requires c =
    word_ready c.event_codeword.ensures (last_counts c.loop-k.invariant c.requires.long (zeros-at3 c c.loop-k-test.false) c.if-waiting-eq0.false c.requires.counts)

pub returns : goal.returns
returns c =
    events_end c.loop-k.invariant c.requires.long (zeros-at4 c c.loop-k-test.false) c.if-waiting-eq0.false (word_wrote c.event_codeword.ensures c.append.ensures)
