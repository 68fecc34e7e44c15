-- `inverse::alone` meets its contract: the rounded number is cut as the definition says, and fills the block.
use mathlib.Core.Path.{sym, ap, ◌∙◌}
use Prim.Native.Nat.{◌+◌}
use native.Mathlib.Nat.{le_refl}
use lib.Dec.{lit≤}
use lib.IntN.{ℤ, pos, negsuc, ◌+ℤ◌}
use lib.Signed.{shr_z}
use mir.Syntax.{w32}
use mir.Val.{SFits}
use mir.Facts.{to_z-of_z}
use Rattle.laws.specs.Integer.{Low}
use Rattle.laws.proofs.Integer.{low_fits, low_shr, low_add, result_is}
use Rattle.laws.proofs.Floor.{floor_shift}
use Rattle.laws.proofs.Block.{fill_is}
use Rattle.quantiser.specs.Cut.{cut}
use Rattle.inverse.specs.Alone.{flat_at}
use Rattle.inverse.proofs.alone.Goals as goal
use Rattle.inverse.proofs.alone.Goals.{Start}

low_sum : (c : Start) → Low (2048 + 4) (c.args.z +ℤ pos 4)
low_sum c = low_add {b = pos 4} c.requires (record { low = le_refl 4 })

fits_sum : (c : Start) → SFits w32 (c.args.z +ℤ pos 4)
fits_sum c = low_fits tt (low_sum c)

fits_number : (c : Start) → SFits w32 (shr_z (c.args.z +ℤ pos 4) 8)
fits_number c = low_fits tt (low_shr 8 257 (low_sum c) (lit≤ tt))

pub overflow_add-z : goal.overflow_add-z
overflow_add-z c = simp (to_z-of_z c.ranges.z) (fits_sum c)

pub returns : goal.returns
unfolding flat_at
returns c =
    let at-start = (goal.at.returns c).Start in
    fill_is _
    (λ y x.
    result_is w32 c.cut_output-number.type_inv
    (c.cut_output-number.ensures
    ∙ simp (to_z-of_z c.ranges.z, to_z-of_z (fits_sum at-start), to_z-of_z (fits_number at-start))
    (ap (λ (z : ℤ). cut (negsuc 255) (pos 255) z) (sym (floor_shift (c.args.z +ℤ pos 4) 8)))))
