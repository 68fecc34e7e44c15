-- `stream::pass` meets its contract: whole bytes where it is calm, else a bit, up to the next start code. Assumes nothing.
use native.Mathlib.Omega.{arith}
use Rattle.stream.proofs.Bytes.{reaches_here, reaches_more, reaches_all, reaches_bit, none_end, none_start}
use Rattle.stream.proofs.pass.Goals as goal

pub loop-i-init : goal.loop-i-init
loop-i-init c = let a = c.args in reaches_here a.bytes.now a.stream a.at a.picture.now

pub pass_calm-run-requires : goal.pass_calm-run-requires
pass_calm-run-requires c = (c.requires, omega (arith, c.loop-i-test.true))

pub returns-then-bytes-i : goal.returns-then-bytes-i
returns-then-bytes-i c =
    let r = c.pass_calm-run.result in
    let all = reaches_all (reaches_more c.loop-i.invariant c.pass_calm-run.ensures) (none_end c.args.bytes.now r.stream r.at c.if-bytes-i.true) in
    record { stream_value = all.0; at_value = all.1.0; picture_after = all.1.1 }

pub bit_at-bit-requires : goal.bit_at-bit-requires
bit_at-bit-requires c = omega (arith, c.if-bytes-i.false)

pub returns-then-starts : goal.returns-then-starts
returns-then-starts c =
    let r = c.pass_calm-run.result in
    let all = reaches_all (reaches_more c.loop-i.invariant c.pass_calm-run.ensures)
    (none_start c.args.bytes.now r.stream r.at (omega (arith, c.if-bytes-i.false)) c.bit_at-bit.ensures c.starts.ensures c.if-starts.true) in
    record { stream_value = all.0; at_value = all.1.0; picture_after = all.1.1 }

pub overflow_add-i : goal.overflow_add-i
overflow_add-i c =
    omega (arith, c.if-bytes-i.false, c.requires)

pub loop-i-smaller : goal.loop-i-smaller
loop-i-smaller c =
    omega (arith, c.if-bytes-i.false, c.pass_calm-run.ensures.onward, c.loop-i-test.true)

pub loop-i-preserved : goal.loop-i-preserved
loop-i-preserved c =
    let r = c.pass_calm-run.result in
    reaches_more (reaches_more c.loop-i.invariant c.pass_calm-run.ensures)
    (reaches_bit c.args.bytes.now r.stream r.at (omega (arith, c.if-bytes-i.false)) c.bit_at-bit.ensures c.starts.ensures c.if-starts.false
    c.push-next.ensures.value c.push-next.ensures.picture_after)

pub returns : goal.returns
returns c = let all = reaches_all c.loop-i.invariant (none_end c.args.bytes.now c.loop-i.next c.loop-i.i c.loop-i-test.false) in
    record { stream_value = all.0; at_value = all.1.0; picture_after = all.1.1 }
