-- `stream::read_whole` meets its contract: by the first read. Assumes nothing.
use Prim.Native.Nat.{ℕ, min, max}
use mathlib.Core.Path.{ap, ◌∙◌}
use Rattle.refusals.specs.Told.{told_verdict}
use Rattle.layout.specs.Flat.{flat}
use Rattle.stream.proofs.Unfilled.{at_once, again}
use Rattle.stream.proofs.read_whole.Goals as goal

pub returns-in-Ok : goal.returns-in-Ok
returns-in-Ok c =
    let a = c.args in
    let all = at_once a.format a.bytes.now a.ones (flat a.head.now a.macroblocks.now a.levels.now) a.count
    (c.min-first.ensures ∙ ap (λ (m : ℕ). min a.count m) (c.max-most.ensures ∙ ap (λ (l : ℕ). max l a.ones) c.limit.ensures))
    (c.read-read.ensures.verdict, c.read-read.ensures.buffers) (ap told_verdict c.in-Ok.is) in
    record { verdict = all.0; buffers = all.1 }

pub returns-in-Err : goal.returns-in-Err
returns-in-Err c =
    let a = c.args in
    let all = again a.format a.bytes.now a.ones (flat a.head.now a.macroblocks.now a.levels.now) a.count
    (c.min-first.ensures ∙ ap (λ (m : ℕ). min a.count m) (c.max-most.ensures ∙ ap (λ (l : ℕ). max l a.ones) c.limit.ensures))
    (c.read-read.ensures.verdict, c.read-read.ensures.buffers) (ap told_verdict c.in-Err.is) (c.read_unfilled.ensures.verdict, c.read_unfilled.ensures.buffers) in
    record { verdict = all.0; buffers = all.1 }
