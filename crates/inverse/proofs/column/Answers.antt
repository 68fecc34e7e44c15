-- `inverse::column` meets its contract: each number is small, also the first with the rounding term.
use mathlib.Core.Path.{◌≡◌, ap, ◌∙◌}
use Prim.Native.Nat.{ℕ}
use native.Mathlib.Nat.{le_refl}
use lib.IntN.{ℤ, pos, ◌+ℤ◌}
use mir.Syntax.{w32}
use mir.Val.{SFits, to_z, of_z}
use mir.Facts.{to_z-of_z}
use Rattle.laws.proofs.Integer.{low_fits, low_add, back}
use Rattle.laws.specs.Block.{cell}
use Rattle.quantiser.proofs.Lines.{line_of_lem}
use Rattle.inverse.proofs.column.Goals as goal
use Rattle.inverse.proofs.column.Goals.{Start}

number_is : (s : Start) → (v : ℕ) → to_z w32 (of_z w32 (cell (pos 0) s.args.t.now v s.args.x)) ≡ cell (pos 0) s.args.t.now v s.args.x
number_is s v = back w32 tt (s.requires.0 v s.args.x)

fits_first : (s : Start) → SFits w32 (cell (pos 0) s.args.t.now 0 s.args.x +ℤ pos 8192)
fits_first s = low_fits tt (low_add {b = pos 8192} {n = 8192} (s.requires.0 0 s.args.x) (record { low = le_refl 8192 }))

pub overflow_add-result : goal.overflow_add-result
overflow_add-result c =
    let at-start = (goal.at.overflow_add-result c).Start in
    rw (number_is at-start 0) (fits_first at-start)

pub returns : goal.returns
returns c =
    let at-start = (goal.at.returns c).Start in
    line_of_lem (ap (λ (z : ℤ). to_z w32 (of_z w32 (z +ℤ pos 8192))) (number_is at-start 0) ∙ to_z-of_z (fits_first at-start)) (number_is at-start 1) (number_is at-start 2)
    (number_is at-start 3) (number_is at-start 4) (number_is at-start 5) (number_is at-start 6) (number_is at-start 7)
