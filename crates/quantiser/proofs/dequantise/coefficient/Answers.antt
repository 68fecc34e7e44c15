-- `quantiser::dequantise::coefficient` meets its contract: 2 Q L + s Q is the signed magnitude, and each number on the way is small.
use mathlib.Core.Path.{◌≡◌, ◌∙◌, ap, sym}
use Prim.Native.Nat.{◌≤◌}
use native.Mathlib.Omega.{arith}
use lib.Dec.{lit≤}
use lib.IntN.{ℤ, pos, ◌+ℤ◌, ◌*ℤ◌}
use mir.Syntax.{w16}
use mir.Val.{to_z, of_z}
use mir.Facts.{to_z_pos}
use borrow.Author.Rules.{rules}
use Rattle.laws.proofs.Integer.{low_fits, low_up, back}
use Rattle.quantiser.proofs.Lines.{back16}
use Rattle.quantiser.specs.Level.{level_of, magnitude, signed, cut_coefficient}
use Rattle.quantiser.proofs.Level.{coefficient-sum, odd_low, twice_low, product_low, sum_low}
use Rattle.quantiser.proofs.dequantise.coefficient.Goals as goal
use Rattle.quantiser.proofs.dequantise.coefficient.Goals.{After-level-l, After-odd, After-signed}

twice_is : (c : After-level-l) → pos 2 *ℤ to_z w16 c.args.quantiser ≡ pos 2 *ℤ pos c.args.quantiser
twice_is c = ap (λ (z : ℤ). pos 2 *ℤ z) (to_z_pos w16 (omega arith))

byte_most : (c : After-level-l) → c.args.byte ≤ 255
byte_most c = search rules

level_is : (c : After-level-l) → to_z w16 (of_z w16 c.level-l.result) ≡ level_of c.args.byte
level_is c = back16 c.level-l.result c.level-l.type_inv ∙ c.level-l.ensures

product_is : (c : After-level-l) → to_z w16 (of_z w16 (pos 2 *ℤ to_z w16 c.args.quantiser)) *ℤ to_z w16 (of_z w16 c.level-l.result) ≡ pos 2 *ℤ pos c.args.quantiser *ℤ level_of c.args.byte
product_is c = λ i. (ap (λ (z : ℤ). to_z w16 (of_z w16 z)) (twice_is c) ∙ back w16 tt (twice_low c.args.quantiser c.args.byte c.requires.1 (byte_most c))) i *ℤ (level_is c) i

odd_is : (c : After-odd) → to_z w16 (of_z w16 c.odd.result) ≡ pos (magnitude c.args.quantiser 0)
odd_is c = back16 c.odd.result c.odd.type_inv ∙ c.odd.ensures

twice_is-at2 : (c : After-signed) → pos 2 *ℤ to_z w16 c.args.quantiser ≡ pos 2 *ℤ pos c.args.quantiser
twice_is-at2 c = ap (λ (z : ℤ). pos 2 *ℤ z) (to_z_pos w16 (omega arith))

byte_most-at2 : (c : After-signed) → c.args.byte ≤ 255
byte_most-at2 c = search rules

level_is-at2 : (c : After-signed) → to_z w16 (of_z w16 c.level-l.result) ≡ level_of c.args.byte
level_is-at2 c = back16 c.level-l.result c.level-l.type_inv ∙ c.level-l.ensures

product_is-at2 : (c : After-signed) → to_z w16 (of_z w16 (pos 2 *ℤ to_z w16 c.args.quantiser)) *ℤ to_z w16 (of_z w16 c.level-l.result) ≡ pos 2 *ℤ pos c.args.quantiser *ℤ level_of c.args.byte
product_is-at2 c = λ i. (ap (λ (z : ℤ). to_z w16 (of_z w16 z)) (twice_is-at2 c) ∙ back w16 tt (twice_low c.args.quantiser c.args.byte c.requires.1 (byte_most-at2 c))) i *ℤ (level_is-at2 c) i

odd_is-at2 : (c : After-signed) → to_z w16 (of_z w16 c.odd.result) ≡ pos (magnitude c.args.quantiser 0)
odd_is-at2 c = back16 c.odd.result c.odd.type_inv ∙ c.odd.ensures

signed_is : (c : After-signed) → to_z w16 (of_z w16 c.signed.result) ≡ signed (pos (magnitude c.args.quantiser 0)) (level_of c.args.byte)
signed_is c = back16 c.signed.result c.signed.type_inv ∙ c.signed.ensures ∙ (λ i. signed (odd_is-at2 c i) (level_is-at2 c i))

sum_is : (c : After-signed) → to_z w16 (of_z w16 (to_z w16 (of_z w16 (pos 2 *ℤ to_z w16 c.args.quantiser)) *ℤ to_z w16 (of_z w16 c.level-l.result))) +ℤ to_z w16 (of_z w16 c.signed.result) ≡ pos 2 *ℤ pos c.args.quantiser *ℤ level_of c.args.byte +ℤ signed (pos (magnitude c.args.quantiser 0)) (level_of c.args.byte)
sum_is c =
    λ i.
    (ap (λ (z : ℤ). to_z w16 (of_z w16 z)) (product_is-at2 c) ∙ back w16 tt (product_low c.args.quantiser c.args.byte c.requires.1 (byte_most-at2 c))) i
    +ℤ (signed_is c) i

pub overflow_mul-quantiser : goal.overflow_mul-quantiser
overflow_mul-quantiser c = rw (twice_is c) (low_fits tt (twice_low c.args.quantiser c.args.byte c.requires.1 (byte_most c)))

pub overflow_mul-quantiser-2 : goal.overflow_mul-quantiser-2
overflow_mul-quantiser-2 c = rw (product_is c) (low_fits tt (product_low c.args.quantiser c.args.byte c.requires.1 (byte_most c)))

pub signed-requires : goal.signed-requires
signed-requires c =
    rw (odd_is c) (low_up 32767 (odd_low c.args.quantiser c.args.byte c.requires.1 (byte_most (goal.at.signed-requires c).After-level-l)) (lit≤ tt))

pub overflow_add-quantiser : goal.overflow_add-quantiser
overflow_add-quantiser c =
    rw (sum_is c) (low_fits tt (sum_low c.args.quantiser c.args.byte c.requires.1 (byte_most (goal.at.overflow_add-quantiser c).After-level-l)))

pub returns : goal.returns
returns c =
    back16 c.cut16.result c.cut16.type_inv ∙ c.cut16.ensures
    ∙ ap cut_coefficient (ap (λ (z : ℤ). to_z w16 (of_z w16 z)) (sum_is (goal.at.returns c).After-signed) ∙ back w16 tt (sum_low c.args.quantiser c.args.byte c.requires.1 (byte_most (goal.at.returns c).After-level-l)))
    ∙ sym (coefficient-sum c.args.quantiser (level_of c.args.byte) c.requires.0)
