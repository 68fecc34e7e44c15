-- `test_leaves::blocks::coefficient` meets its contract: by the sign of 16 bits. Assumes nothing.
use mathlib.Core.Path.{◌≡◌, ◌∙◌, ap}
use native.Mathlib.Omega.{arith}
use lib.IntN.{ℤ, pos, negsuc}
use mir.Syntax.{w32}
use mir.Val.{to_z, of_z}
use mir.Facts.{to_z_pos}
use borrow.Author.Rules.{rules}
use Rattle.laws.proofs.Integer.{low_fits}
use Rattle.quantiser.specs.Cut.{cut}
use Rattle.test_leaves.specs.Coefficient.{coefficient_of}
use Rattle.test_leaves.proofs.CoefficientLaws.{coefficient_positive, coefficient_negative}
use Rattle.test_leaves.proofs.blocks.coefficient.Goals as goal

pub overflow_cast-n : goal.overflow_cast-n
overflow_cast-n c = low_fits {m = 32767} tt (record { low = omega (arith, c.two-n.ensures) })

pub returns-then-n-lt32768 : goal.returns-then-n-lt32768
returns-then-n-lt32768 c =
    let t = c.two-n in
    let h : to_z w32 (of_z w32 c.cut.result) ≡ c.cut.result = search rules in
    h ∙ c.cut.ensures ∙ ap (λ (z : ℤ). cut (negsuc 2047) (pos 2047) z) (to_z_pos w32 (omega (arith, c.if-n-lt32768.true)))
    ∙ coefficient_positive t.result (search rules) ∙ ap coefficient_of t.ensures

pub returns-else-n-lt32768 : goal.returns-else-n-lt32768
returns-else-n-lt32768 c =
    let t = c.two-n in
    let h : to_z w32 (of_z w32 c.cut-else-n-lt32768.result) ≡ c.cut-else-n-lt32768.result = search rules in
    let k : to_z w32 (of_z w32 c.minus.result) ≡ c.minus.result = search rules in
    h ∙ c.cut-else-n-lt32768.ensures ∙ ap (λ (z : ℤ). cut (negsuc 2047) (pos 2047) z) (k ∙ c.minus.ensures)
    ∙ coefficient_negative t.result (search rules) ∙ ap coefficient_of t.ensures
