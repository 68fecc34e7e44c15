-- `test_leaves::blocks::minus` meets its contract: 17 bits and a sign fit. Assumes nothing.
use mathlib.Core.Path.{◌≡◌, ◌∙◌, ap}
use native.Mathlib.Omega.{arith}
use lib.IntN.{pos, neg_ℤ, ◌-ℤ◌, +ℤ_idl}
use mir.Syntax.{w32}
use mir.Val.{SFits, to_z}
use mir.Facts.{to_z-of_z, to_z_pos}
use Rattle.laws.proofs.Integer.{low_fits, low_neg}
use Rattle.test_leaves.proofs.blocks.minus.Goals as goal
use Rattle.test_leaves.proofs.blocks.minus.Goals.{Start}

is : (c : Start) → pos 0 -ℤ to_z w32 c.args.n ≡ neg_ℤ (pos c.args.n)
is c = +ℤ_idl (neg_ℤ (to_z w32 c.args.n)) ∙ ap neg_ℤ (to_z_pos w32 {n = c.args.n} (omega arith))

fits : (c : Start) → SFits w32 (neg_ℤ (pos c.args.n))
fits c = low_fits tt (low_neg {a = pos c.args.n} (record { low = c.requires }))

pub overflow_sub-result : goal.overflow_sub-result
overflow_sub-result c = rw (is c) (fits c)

pub returns : goal.returns
returns c = rw (is c) (to_z-of_z (fits c))
