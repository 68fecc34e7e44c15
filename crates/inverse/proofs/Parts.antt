-- Numbers of 32 bits, and what a function of them gives in 16. Assumes nothing.
use mathlib.Core.Path.{◌≡◌, ap, ◌∙◌}
use Prim.Native.Nat.{ℕ, ◌^◌, ◌<◌}
use lib.Dec.{T, ltb}
use lib.IntN.{ℤ}
use lib.Signed.{mag}
use mir.Syntax.{w16, w32}
use mir.Val.{to_z, of_z}
use Rattle.laws.specs.Integer.{Low}
use Rattle.laws.proofs.Integer.{back, result_is}

-- r, which a call of f was said to give for z, is read back from its bits
pub call_is : (f : ℤ → ℤ) {z r : ℤ} {m : ℕ} → T (ltb m (2 ^ 31)) → Low m z → mag r < 2 ^ 15 → r ≡ f (to_z w32 (of_z w32 z)) → to_z w16 (of_z w16 r) ≡ f z
call_is f t l ok e = result_is w16 ok (e ∙ ap f (back w32 t l))
