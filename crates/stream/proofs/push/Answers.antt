-- `stream::push` meets its contract: a start code or one more bit. Assumes nothing.
use Rattle.stream.proofs.Pushed.{pushed_start, pushed_on}
use Rattle.stream.proofs.push.Goals as goal

pub returns-then-starts : goal.returns-then-starts
returns-then-starts c =
    let a = c.args in
    let all = pushed_start a.stream a.bit c.starts.ensures a.picture.now c.if-starts.true c.begun_by.ensures c.begin.ensures in
    record { value = all.0; picture_after = all.1 }

pub returns : goal.returns
returns c =
    let a = c.args in
    let all = pushed_on a.stream a.bit c.starts.ensures a.picture.now c.if-starts.false c.longer_by.ensures c.extend.ensures in
    record { value = all.0; picture_after = all.1 }
