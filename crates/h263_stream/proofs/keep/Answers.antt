-- `h263_stream::keep` meets its contract: past the end nothing is set. Assumes nothing.
use mathlib.Core.Path.{sym}
use lib.Seq.{set_out}
use Rattle.h263_stream.proofs.keep.Goals as goal

pub returns-else-at-picture : goal.returns-else-at-picture
returns-else-at-picture c =
    let a = c.args in
    sym (set_out a.picture.now a.at a.byte c.if-at-picture.false)
