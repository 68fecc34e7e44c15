-- A byte further, and what it says at the end. Assumes nothing.
use Rattle.checks.proofs.Turns.{checked_none, checked_more, checked_all}
use Rattle.checks.proofs.check_on.Goals as goal

pub loop-byte-init : goal.loop-byte-init
loop-byte-init c = checked_none _ _ c.requires

pub loop-byte-preserved : goal.loop-byte-preserved
loop-byte-preserved c = checked_more _ c.loop-byte.invariant c.loop-byte-test.true c.wide.ensures.0

pub returns : goal.returns
returns c = checked_all _ c.loop-byte.invariant c.loop-byte-test.false
