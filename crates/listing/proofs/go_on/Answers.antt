-- `listing::go_on` meets its contract: what the receiver answers and leaves. Assumes nothing.
use mathlib.Core.Path.{ap}
use Rattle.listing.specs.Listed.{stepped}
use Rattle.listing.proofs.go_on.Goals as goal

pub returns : goal.returns
unfolding stepped
returns c = ap stepped c.receive-received.ensures
