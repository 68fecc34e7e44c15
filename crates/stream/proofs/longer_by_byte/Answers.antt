-- `stream::longer_by_byte` meets its contract: where it is calm, eight bits are one more each. Assumes nothing.
use Rattle.stream.proofs.Bytes.{longer_byte}
use Rattle.stream.proofs.longer_by_byte.Goals as goal

pub returns : goal.returns
returns c =
    longer_byte c.requires.0 c.requires.1 c.ranges.byte.fits c.after_last-last.ensures c.after_before-before.ensures
