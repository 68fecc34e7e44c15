-- `h261_filter::down_edge` meets its contract: the numbers are samples, so that they are read back from their bits.
use mathlib.Core.Path.{◌∙◌}
use lib.Dec.{lit≤}
use lib.IntN.{pos, ◌*ℤ◌}
use mir.Syntax.{w32}
use Rattle.laws.proofs.Integer.{low_up, back}
use Rattle.quantiser.proofs.Lines.{back32}
use Rattle.h261_filter.proofs.down_edge.Goals as goal

pub edge-requires : goal.edge-requires
edge-requires c =
    rw (back w32 tt (c.requires.0 c.args.k)) (low_up 1020 (c.requires.0 c.args.k) (lit≤ tt))

pub returns : goal.returns
returns c =
    back32 c.edge.result c.edge.type_inv ∙ c.edge.ensures ∙ (λ i. pos 4 *ℤ back w32 tt (c.requires.0 c.args.k) i)
