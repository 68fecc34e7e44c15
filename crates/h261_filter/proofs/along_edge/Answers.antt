-- `h261_filter::along_edge` meets its contract: at the edge the weighted sum is four times the number.
use mathlib.Core.Path.{◌≡◌, ◌∙◌, ap, sym}
use native.Mathlib.Omega.{arith}
use lib.IntN.{pos, ◌*ℤ◌}
use mir.Syntax.{w32}
use mir.Val.{to_z, of_z}
use Rattle.laws.proofs.Integer.{back}
use Rattle.quantiser.specs.Lines.{entry}
use Rattle.quantiser.proofs.Lines.{back32}
use Rattle.h261_filter.specs.Filter.{rounded_sixteenth}
use Rattle.h261_filter.proofs.FilterLaws.{weighted_edge, edge_below, edge_low}
use Rattle.h261_filter.proofs.along_edge.Goals as goal
use Rattle.h261_filter.proofs.along_edge.Goals.{After-edge}

edge_is : (c : After-edge) → to_z w32 (of_z w32 c.edge.result) ≡ pos 4 *ℤ entry c.args.g c.args.k
edge_is c =
    back32 c.edge.result c.edge.type_inv ∙ c.edge.ensures ∙ (λ i. pos 4 *ℤ back w32 tt (c.requires.0 c.args.k) i)

pub offset_bounds-g-k : goal.offset_bounds-g-k
offset_bounds-g-k c = omega (arith, edge_below c.args.k c.requires.1)

pub bounds-g-k : goal.bounds-g-k
bounds-g-k c = edge_below c.args.k c.requires.1

pub edge-requires : goal.edge-requires
edge-requires c =
    rw (back w32 tt (c.requires.0 c.args.k)) (c.requires.0 c.args.k)

pub rounded-requires : goal.rounded-requires
rounded-requires c =
    rw (edge_is c) (edge_low (c.requires.0 c.args.k))

pub returns : goal.returns
returns c =
    back32 c.rounded.result c.rounded.type_inv ∙ c.rounded.ensures
    ∙ ap rounded_sixteenth (edge_is (goal.at.returns c).After-edge ∙ sym (weighted_edge (entry c.args.g) c.args.k c.requires.1))
