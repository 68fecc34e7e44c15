-- `samples::rows::place_from` meets its contract: its sum is the index, which lies in the store. Assumes nothing.
use mathlib.Core.Path.{◌≡◌, ◌∙◌}
use Prim.Native.Nat.{ℕ, ◌+◌, ◌*◌, ◌≤◌, ◌<◌}
use native.Mathlib.Omega.{arith}
use Rattle.size.specs.declared.Size.{Size}
use Rattle.size.specs.Place.{wide, base, index}
use Rattle.size.proofs.Grid.{index_size}
use Rattle.size.proofs.Room.{store_most}
use Rattle.samples.specs.Ready.{InPlane}
use Rattle.samples.proofs.rows.place_from.Goals as goal

module _ {f : Size} {p y x b w : ℕ} (o : InPlane f p b w y x) where
  sum_is : b + y * w + x ≡ index f p y x
  sum_is = (λ i. o.starts i + y * o.apart i + x) ∙ joined (base f p) (y * wide f p) x
    where
      joined : (a b c : ℕ) → a + b + c ≡ a + (b + c)
      joined a b c = omega arith

  sum_small : b + y * w + x < 152064
  sum_small = less sum_is (index_size f p y x o.inside.plane o.inside.row o.inside.column) (store_most f)
    where
      less : {a b n : ℕ} → a ≡ b → b < n → n ≤ 152064 → a < 152064
      less e l m = omega arith

pub overflow_mul-result : goal.overflow_mul-result
overflow_mul-result c = omega (arith, sum_small c.requires)

pub overflow_add-result : goal.overflow_add-result
overflow_add-result c = omega (arith, sum_small c.requires)

pub overflow_add-result-2 : goal.overflow_add-result-2
overflow_add-result-2 c = omega (arith, sum_small c.requires)

pub returns : goal.returns
returns c = sum_is c.requires
