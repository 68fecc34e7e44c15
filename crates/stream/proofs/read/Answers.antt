-- `stream::read` meets its contract: without fill up to the end of a byte, or else as `read_whole` reads. Assumes nothing.
use mathlib.Core.Path.{ap}
use native.Mathlib.Omega.{arith}
use borrow.Author.Tests.{not-false}
use Rattle.refusals.specs.Told.{told_verdict}
use Rattle.layout.specs.Flat.{flat}
use Rattle.stream.proofs.Fill.{filled_once, filled_again}
use Rattle.stream.proofs.read.Goals as goal

pub overflow_add-ones : goal.overflow_add-ones
overflow_add-ones c =
    omega (arith, (c.ends_filled.ensures (not-false _ c.if-not-ends_filled.false-raw)).some, c.ranges.count)

pub returns-in-Ok : goal.returns-in-Ok
returns-in-Ok c =
    let a = c.args in
    let all = filled_once (c.ends_filled.ensures (not-false _ c.if-not-ends_filled.false-raw)) (flat a.head.now a.macroblocks.now a.levels.now) (c.read-read.ensures.verdict, c.read-read.ensures.buffers)
    (ap told_verdict c.in-Ok.is) in
    record { verdict = all.0; buffers = all.1 }

pub returns-in-Err : goal.returns-in-Err
returns-in-Err c =
    let a = c.args in
    let all = filled_again (c.ends_filled.ensures (not-false _ c.if-not-ends_filled.false-raw)) (flat a.head.now a.macroblocks.now a.levels.now) (c.read-read.ensures.verdict, c.read-read.ensures.buffers)
    (ap told_verdict c.in-Err.is) (c.read_whole-in-Err.ensures.verdict, c.read_whole-in-Err.ensures.buffers) in
    record { verdict = all.0; buffers = all.1 }
