-- `h263_stream::pass` meets its contract: byte by byte, up to the next code. Assumes nothing.
use native.Mathlib.Omega.{arith}
use Rattle.h263_stream.proofs.Passes.{reaches_here, reaches_all, reaches_byte, none_end, none_code}
use Rattle.h263_stream.proofs.pass.Goals as goal

pub loop-i-init : goal.loop-i-init
loop-i-init c =
    let a = c.args in
    record { reaches = reaches_here a.bytes.now a.stream a.from a.picture.now; most = omega arith }

pub returns-then-completes : goal.returns-then-completes
returns-then-completes c =
    let l = c.loop-i in
    let all = reaches_all l.invariant.reaches (none_code c.args.bytes.now l.next l.i c.loop-i-test.true c.completes.ensures c.if-completes.true) in
    record { stream_value = all.0; at_value = all.1.0; picture_after = all.1.1 }

pub loop-i-preserved : goal.loop-i-preserved
loop-i-preserved c =
    let l = c.loop-i in
    record {
      reaches =
          reaches_byte c.args.bytes.now l.next l.i c.loop-i-test.true c.completes.ensures c.if-completes.false l.invariant.reaches
          c.push-next.ensures.value c.push-next.ensures.picture_after;
      most = omega (arith, c.loop-i-test.true);
    }

pub returns : goal.returns
returns c =
    let l = c.loop-i in
    let all = reaches_all l.invariant.reaches (none_end c.args.bytes.now l.next l.i c.loop-i-test.false) in
    record { stream_value = all.0; at_value = omega (arith, all.1.0, c.max.ensures, l.invariant.most, c.loop-i-test.false, l.auto.i); picture_after = all.1.1 }
