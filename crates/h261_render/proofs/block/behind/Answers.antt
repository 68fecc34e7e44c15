-- `h261_render::block::behind` meets its contract: by the sign of the component and the plane. Assumes nothing.
use mathlib.Core.Path.{sym, ap, ◌∙◌}
use Prim.Native.Nat.{ℕ, ◌/◌}
use borrow.Author.Rules.{rules}
use Rattle.h261_render.proofs.Component.{back_low, back_high, halved_whole, halved_half, halved_none}
use Rattle.h261_description.specs.Moved.{halved_place}
use Rattle.h261_render.proofs.block.behind.Goals as goal

pub returns-then-component-lt128 : goal.returns-then-component-lt128
returns-then-component-lt128 c = sym (ap (halved_place c.args.plane) (back_low c.args.component c.if-component-lt128.true) ∙ halved_none c.args.plane)

pub returns-then-plane-eq0 : goal.returns-then-plane-eq0
returns-then-plane-eq0 c = sym (halved_whole c.args.plane _ c.if-plane-eq0.true ∙ back_high c.args.component (search rules) (search rules))

pub returns-else-plane-eq0 : goal.returns-else-plane-eq0
returns-else-plane-eq0 c =
    sym (halved_half c.args.plane _ c.if-plane-eq0.false ∙ ap (λ (n : ℕ). n / 2) (back_high c.args.component (search rules) (search rules)))
