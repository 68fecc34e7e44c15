-- `stream::read_unfilled` meets its contract: by the second read. Assumes nothing.
use borrow.Author.Tests.{not-true, not-false}
use mathlib.Core.Path.{ap}
use Rattle.refusals.specs.Told.{told_verdict}
use Rattle.layout.specs.Flat.{flat}
use Rattle.stream.proofs.Unfilled.{stays, whole, broken}
use Rattle.stream.proofs.read_unfilled.Goals as goal

pub returns-then-not-among_zeros : goal.returns-then-not-among_zeros
returns-then-not-among_zeros c = let a = c.args in
    let all = stays a.format a.bytes.now a.ones (flat a.head.now a.macroblocks.now a.levels.now) _ c.among_zeros.ensures (not-true _ c.if-not-among_zeros.true-raw) in
    record { verdict = all.0; buffers = all.1 }

pub returns-in-Ok : goal.returns-in-Ok
returns-in-Ok c =
    let a = c.args in
    let all = whole a.format a.bytes.now a.ones (flat a.head.now a.macroblocks.now a.levels.now) _ c.among_zeros.ensures
    (not-false _ c.if-not-among_zeros.false-raw) (c.read-read.ensures.verdict, c.read-read.ensures.buffers) (ap told_verdict c.in-Ok.is) in
    record { verdict = all.0; buffers = all.1 }

pub returns-in-Err : goal.returns-in-Err
returns-in-Err c =
    let a = c.args in
    let all = broken a.format a.bytes.now a.ones (flat a.head.now a.macroblocks.now a.levels.now) _ c.among_zeros.ensures
    (not-false _ c.if-not-among_zeros.false-raw) (c.read-read.ensures.verdict, c.read-read.ensures.buffers) (ap told_verdict c.in-Err.is) in
    record { verdict = all.0; buffers = all.1 }
