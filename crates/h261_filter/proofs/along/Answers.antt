-- `h261_filter::along` meets its contract: inside the block the weighted sum has weights 1, 2, 1.
use mathlib.Core.Path.{◌≡◌, ◌∙◌, ap, sym}
use Prim.Native.Nat.{ℕ, ◌+◌, ◌-◌}
use lib.IntN.{ℤ, pos, ◌+ℤ◌, ◌*ℤ◌}
use mir.Syntax.{w32}
use mir.Val.{to_z, of_z}
use Rattle.laws.proofs.Integer.{back}
use Rattle.quantiser.specs.Lines.{entry}
use Rattle.quantiser.proofs.Lines.{back32}
use Rattle.h261_filter.specs.Filter.{rounded_sixteenth}
use Rattle.h261_filter.proofs.FilterLaws.{weighted_inside, inside_low}
use Rattle.h261_filter.proofs.along.Goals as goal
use Rattle.h261_filter.proofs.along.Goals.{After-inside}

abbrev g : (c : After-inside) → ℕ → ℤ
g c = entry c.args.g

inside_is : (c : After-inside) → to_z w32 (of_z w32 c.inside.result) ≡ (g c) (c.args.k - 1) +ℤ pos 2 *ℤ (g c) c.args.k +ℤ (g c) (c.args.k + 1)
inside_is c =
    back32 c.inside.result c.inside.type_inv ∙ c.inside.ensures
    ∙ (λ i. back w32 tt (c.requires.0 (c.args.k - 1)) i +ℤ pos 2 *ℤ back w32 tt (c.requires.0 c.args.k) i +ℤ back w32 tt (c.requires.0 (c.args.k + 1)) i)

pub inside-requires : goal.inside-requires
inside-requires c =
    let k = c.args.k in
    record {
      before = rw (back w32 tt (c.requires.0 (k - 1))) (c.requires.0 (k - 1));
      here = rw (back w32 tt (c.requires.0 k)) (c.requires.0 k);
      after = rw (back w32 tt (c.requires.0 (k + 1))) (c.requires.0 (k + 1));
    }

pub rounded-requires : goal.rounded-requires
rounded-requires c =
    rw (inside_is c) (inside_low (c.requires.0 (c.args.k - 1)) (c.requires.0 c.args.k) (c.requires.0 (c.args.k + 1)))

pub returns : goal.returns
returns c =
    let at-after-inside = (goal.at.returns c).After-inside in
    back32 c.rounded.result c.rounded.type_inv ∙ c.rounded.ensures
    ∙ ap rounded_sixteenth (inside_is at-after-inside ∙ sym (weighted_inside (g at-after-inside) c.args.k c.requires.1.least c.requires.1.most))
