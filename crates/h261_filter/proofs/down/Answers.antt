-- `h261_filter::down` meets its contract: the numbers are samples, so that they are read back from their bits.
use mathlib.Core.Path.{◌∙◌}
use lib.Dec.{lit≤}
use lib.IntN.{pos, ◌+ℤ◌, ◌*ℤ◌}
use mir.Syntax.{w32}
use Rattle.laws.proofs.Integer.{low_up, back}
use Rattle.quantiser.proofs.Lines.{back32}
use Rattle.h261_filter.proofs.down.Goals as goal

pub inside-requires : goal.inside-requires
inside-requires c =
    let k = c.args.k in
    let rows = c.requires.0 in
    record {
      before = rw (back w32 tt (rows.above k)) (low_up 1020 (rows.above k) (lit≤ tt));
      here = rw (back w32 tt (rows.here k)) (low_up 1020 (rows.here k) (lit≤ tt));
      after = rw (back w32 tt (rows.below k)) (low_up 1020 (rows.below k) (lit≤ tt));
    }

pub returns : goal.returns
returns c =
    let k = c.args.k in
    let rows = c.requires.0 in
    back32 c.inside.result c.inside.type_inv ∙ c.inside.ensures
    ∙ (λ i. back w32 tt (rows.above k) i +ℤ pos 2 *ℤ back w32 tt (rows.here k) i +ℤ back w32 tt (rows.below k) i)
