-- `h263_render::changed` meets its contract: by the sign of the DQUANT. Assumes nothing.
use mathlib.Core.Path.{◌≡◌, sym, ◌∙◌}
use Prim.Native.Nat.{ℕ, ◌-◌, ◌<◌, min, max}
use native.Mathlib.Omega.{arith}
use borrow.Author.Rules.{rules}
use Rattle.h263_description.proofs.Quantiser.{changed_up, changed_down}
use Rattle.h263_render.proofs.changed.Goals as goal

one : {n : ℕ} → n < 256 → 1 ≡ min (max (n - 256) 1) 31
one l = omega arith

pub returns-then-dquant-lt128 : goal.returns-then-dquant-lt128
returns-then-dquant-lt128 c =
    let a = c.args in
    c.cut.ensures ∙ sym (changed_up a.quantiser a.dquant c.if-dquant-lt128.true)

pub returns-then-sum-lt256 : goal.returns-then-sum-lt256
returns-then-sum-lt256 c =
    let a = c.args in
    one c.if-sum-lt256.true ∙ sym (changed_down a.quantiser a.dquant (search rules) (search rules))

pub returns : goal.returns
returns c =
    let a = c.args in
    c.cut-2.ensures ∙ sym (changed_down a.quantiser a.dquant (search rules) (search rules))
