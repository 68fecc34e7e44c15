-- `bch::byte_steps` meets its contract: antt computes the definition.
use mathlib.Core.Path.{refl}
use Rattle.laws.specs.Row.{row}
use Rattle.bch.specs.Division.{up, raised}
use Rattle.bch.specs.Frame.{byte_steps}
use Rattle.bch.proofs.byte_steps.Goals as goal

pub returns : goal.returns
unfolding byte_steps row raised up
returns c = refl
