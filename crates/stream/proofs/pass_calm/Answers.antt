-- `stream::pass_calm` meets its contract: from a whole byte on, or not at all. Assumes nothing.
use native.Mathlib.Omega.{arith}
use Rattle.stream.proofs.Bytes.{reaches_here, reaches_from}
use Rattle.stream.proofs.pass_calm.Goals as goal

pub pass_bytes-requires : goal.pass_bytes-requires
pass_bytes-requires c = (c.requires.0, omega (arith, c.requires.1))

pub returns-then-at-eq0 : goal.returns-then-at-eq0
returns-then-at-eq0 c =
    reaches_from c.args.at c.if-at-eq0.true c.pass_bytes.ensures

pub returns : goal.returns
returns c = let a = c.args in reaches_here a.bytes.now a.stream a.at a.picture.now
