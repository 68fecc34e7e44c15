-- `quantiser::cut::short` meets its contract: what is cut to 16 bits fits them.
use mathlib.Core.Path.{◌≡◌, ◌∙◌, ap}
use Prim.Native.Nat.{suc-le-suc}
use lib.IntN.{ℤ, pos, negsuc}
use mir.Syntax.{w16, w32}
use mir.Val.{SFits, to_z, of_z}
use mir.Facts.{to_z-of_z}
use borrow.Author.Rules.{rules}
use Rattle.quantiser.specs.Cut.{cut, short}
use Rattle.quantiser.proofs.CutLaws.{short-mag}
use Rattle.quantiser.proofs.cut.short.Goals as goal
use Rattle.quantiser.proofs.cut.short.Goals.{After-cut}

fits : (z : ℤ) → SFits w16 (short z)
fits z = record { sfits = suc-le-suc (short-mag z) }

result_is : (c : After-cut) → to_z w32 (of_z w32 c.cut.result) ≡ short c.args.z
unfolding short
result_is c =
    let h : to_z w32 (of_z w32 c.cut.result) ≡ c.cut.result = search rules in
    h ∙ c.cut.ensures ∙ ap (λ (z : ℤ). cut (negsuc 32767) (pos 32767) z) (to_z-of_z c.ranges.z)

pub overflow_cast-result : goal.overflow_cast-result
overflow_cast-result c = rw (result_is c) (fits c.args.z)

pub returns : goal.returns
returns c = ap (λ (z : ℤ). to_z w16 (of_z w16 z)) (result_is c) ∙ to_z-of_z (fits c.args.z)
