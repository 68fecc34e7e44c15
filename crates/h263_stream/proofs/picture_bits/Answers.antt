-- `h263_stream::picture_bits` meets its contract: by the verdict on the bits up to the limit. Assumes nothing.
use mathlib.Core.Path.{sym, ap, ◌∙◌}
use Rattle.refusals.specs.Told.{told_verdict}
use Rattle.h263_stream.proofs.Dropped.{bits_by_lem}
use Rattle.h263_stream.proofs.picture_bits.Goals as goal

pub returns-in-Ok : goal.returns-in-Ok
returns-in-Ok c =
    let a = c.args in
    c.bits_to.ensures
    ∙ bits_by_lem a.size a.bytes.now a.count c.all_bits-all.ensures c.limit.ensures c.min-seen.ensures
    (sym (ap told_verdict c.in-Ok.is) ∙ c.judge-verdict.ensures)

pub returns-in-Err : goal.returns-in-Err
returns-in-Err c =
    let a = c.args in
    c.bits_refused.ensures
    ∙ bits_by_lem a.size a.bytes.now a.count c.all_bits-all.ensures c.limit.ensures c.min-seen.ensures
    (sym (ap told_verdict c.in-Err.is) ∙ c.judge-verdict.ensures)
