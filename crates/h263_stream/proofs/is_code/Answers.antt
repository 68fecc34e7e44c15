-- `h263_stream::is_code` meets its contract: byte by byte. Assumes nothing.
use Rattle.h263_stream.proofs.StreamLaws.{first_other, second_other, by_third}
use Rattle.h263_stream.proofs.is_code.Goals as goal

pub returns-then-a-ne0 : goal.returns-then-a-ne0
returns-then-a-ne0 c =
    let a = c.args in
    first_other a.six a.a a.b a.c c.if-a-ne0.true

pub returns-then-b-ne0 : goal.returns-then-b-ne0
returns-then-b-ne0 c =
    let a = c.args in
    second_other a.six a.a a.b a.c c.if-a-ne0.false c.if-b-ne0.true

pub returns : goal.returns
returns c =
    let a = c.args in
    by_third a.six a.a a.b a.c c.if-a-ne0.false c.if-b-ne0.false
