-- `quantiser::dequantise::odd` meets its contract: by the definition's test, one arm each.
use mathlib.Core.Path.{◌≡◌, ◌∙◌, ap, sym}
use mathlib.Core.Bool.{Bool}
use Prim.Native.Nat.{◌-◌}
use native.Mathlib.Omega.{arith}
use lib.IntN.{ℤ, pos, ◌-ℤ◌}
use mir.Syntax.{w16}
use mir.Val.{SFits, to_z, of_z}
use mir.Facts.{to_z-of_z, to_z_pos}
use borrow.Author.Tests.{eq-eqb, ne_eqb}
use Rattle.laws.specs.Choice.{pick}
use Rattle.laws.proofs.Integer.{low_fits, sub_below}
use Rattle.quantiser.proofs.Level.{magnitude-none}
use Rattle.quantiser.proofs.dequantise.odd.Goals as goal
use Rattle.quantiser.proofs.dequantise.odd.Goals.{Else-quantiser-eq0, Then-quantiser-eq0}

quantiser_is : (s : Then-quantiser-eq0) → to_z w16 s.args.quantiser ≡ pos s.args.quantiser
quantiser_is s = to_z_pos w16 (omega arith)

less_is : (s : Then-quantiser-eq0) → to_z w16 s.args.quantiser -ℤ pos 1 ≡ pos (s.args.quantiser - 1)
less_is s = ap (λ (z : ℤ). z -ℤ pos 1) (quantiser_is s) ∙ sub_below s.args.quantiser 1 s.requires.0

less_fits : (s : Then-quantiser-eq0) → SFits w16 (pos (s.args.quantiser - 1))
less_fits s = low_fits {m = 31} tt (record { low = omega (arith, s.requires.1) })

quantiser_is-at2 : (s : Else-quantiser-eq0) → to_z w16 s.args.quantiser ≡ pos s.args.quantiser
quantiser_is-at2 s = to_z_pos w16 (omega arith)

pub overflow_sub-result : goal.overflow_sub-result
overflow_sub-result c = rw (less_is c) (less_fits c)

pub returns-then-quantiser-eq0 : goal.returns-then-quantiser-eq0
returns-then-quantiser-eq0 c =
    let q = c.args.quantiser in
    ap (λ (z : ℤ). to_z w16 (of_z w16 z)) (less_is c) ∙ to_z-of_z (less_fits c)
    ∙ ap pos (ap (λ (b : Bool). pick b (q - 1) q) (sym (eq-eqb _ _ c.if-quantiser-eq0.true)) ∙ magnitude-none q)

pub returns-else-quantiser-eq0 : goal.returns-else-quantiser-eq0
returns-else-quantiser-eq0 c =
    let q = c.args.quantiser in
    quantiser_is-at2 c ∙ ap pos (ap (λ (b : Bool). pick b (q - 1) q) (sym (ne_eqb _ _ c.if-quantiser-eq0.false)) ∙ magnitude-none q)
