-- `inverse::line` meets its contract: each number is small, so that it is read back from its bits.
use mathlib.Core.Path.{◌≡◌}
use Prim.Native.Nat.{ℕ}
use lib.IntN.{pos}
use mir.Syntax.{w16}
use mir.Val.{to_z, of_z}
use Rattle.laws.proofs.Integer.{back}
use Rattle.laws.specs.Block.{cell}
use Rattle.quantiser.proofs.Lines.{line_of_lem}
use Rattle.inverse.proofs.line.Goals as goal
use Rattle.inverse.proofs.line.Goals.{Start}

number_is : (s : Start) → (u : ℕ) → to_z w16 (of_z w16 (cell (pos 0) s.args.n.now u s.args.v)) ≡ cell (pos 0) s.args.n.now u s.args.v
number_is s u = back w16 tt (s.requires.0 u s.args.v)

pub returns : goal.returns
returns c =
    let at-start = (goal.at.returns c).Start in
    line_of_lem (number_is at-start 0) (number_is at-start 1) (number_is at-start 2) (number_is at-start 3) (number_is at-start 4) (number_is at-start 5) (number_is at-start 6) (number_is at-start 7)
