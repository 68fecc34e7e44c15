-- `h263_stream::push` meets its contract: a start code, an end code or one more byte. Assumes nothing.
use mathlib.Core.Path.{refl, sym, ◌∙◌}
use Rattle.h263_stream.proofs.StreamLaws.{pushed}
use Rattle.h263_stream.proofs.push.Goals as goal

pub returns-then-starts : goal.returns-then-starts
returns-then-starts c =
    let a = c.args in
    let all = pushed a.stream a.byte a.picture.now (sym c.starts.ensures ∙ c.if-starts.true) refl c.begun_by.ensures c.begin.ensures in
    record { value = all.0; picture_after = all.1 }

pub returns-then-ends : goal.returns-then-ends
returns-then-ends c =
    let a = c.args in
    let all = pushed a.stream a.byte a.picture.now (sym c.starts.ensures ∙ c.if-starts.false) (sym c.ends.ensures ∙ c.if-ends.true) c.ended_by.ensures refl in
    record { value = all.0; picture_after = all.1 }

pub returns : goal.returns
returns c =
    let a = c.args in
    let all = pushed a.stream a.byte a.picture.now (sym c.starts.ensures ∙ c.if-starts.false) (sym c.ends.ensures ∙ c.if-ends.false) c.longer_by.ensures
    c.keep.ensures in
    record { value = all.0; picture_after = all.1 }
