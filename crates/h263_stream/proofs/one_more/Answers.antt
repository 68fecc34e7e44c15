-- `h263_stream::one_more` meets its contract. Assumes nothing.
use Rattle.h263_stream.proofs.StreamLaws.{more_below, more_last}
use Rattle.h263_stream.proofs.one_more.Goals as goal

pub returns-then-n-lt18446744073709551615 : goal.returns-then-n-lt18446744073709551615
returns-then-n-lt18446744073709551615 c = more_below c.args.n c.if-n-lt18446744073709551615.true

pub returns : goal.returns
returns c = more_last c.args.n c.if-n-lt18446744073709551615.false
