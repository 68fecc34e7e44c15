-- `samples::macroblock::grid` meets its contract: by the plane. Assumes nothing.
use mathlib.Core.Path.{sym, ap}
use Prim.Native.Nat.{ℕ}
use Rattle.size.specs.Place.{grid_of}
use Rattle.size.proofs.Grid.{other_plane}
use Rattle.samples.proofs.macroblock.grid.Goals as goal

pub returns-then-plane-eq0 : goal.returns-then-plane-eq0
returns-then-plane-eq0 c = sym (ap (λ (q : ℕ). grid_of q c.args.place c.args.half) c.if-plane-eq0.true)

pub returns-else-plane-eq0 : goal.returns-else-plane-eq0
returns-else-plane-eq0 c = ap (λ (q : ℕ). grid_of q c.args.place c.args.half) (other_plane _ c.if-plane-eq0.false)
