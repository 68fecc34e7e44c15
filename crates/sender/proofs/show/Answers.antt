-- `sender::show` meets its contract: the store of the size that was opened. Assumes nothing.
use mathlib.Core.Path.{subst}
use Rattle.size.specs.declared.Size.{Size}
use Rattle.standing.specs.Stores.{HandsBack}
use Rattle.sender.proofs.show.Goals as goal

pub returns : goal.returns
returns c =
    subst (λ (z : Size). HandsBack z c.args.sender.holder c.args.first c.args.second c.store_shown.result) c.size_of-size.ensures
    c.store_shown.ensures
