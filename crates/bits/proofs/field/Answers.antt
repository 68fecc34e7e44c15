-- `bits::field` meets its contract: the window's first bits, or too few are left.
use mathlib.Core.Path.{◌≡◌, sym, ap, ◌∙◌}
use mathlib.Core.List.{List}
use Prim.Native.Nat.{ℕ, ◌+◌, ◌-◌, ◌/◌, ◌^◌, ◌≤◌}
use Rattle.bits.specs.Bits.{value, bits_left}
use Rattle.bits.specs.Places.{plain}
use Rattle.bits.specs.Read.{got, field}
use Rattle.bits.proofs.Value.{window_first}
use Rattle.bits.proofs.Fields.{field_at, field-short}
use Rattle.bits.proofs.field.Goals as goal

got_is : (s : List ℕ) (n at k w : ℕ) → k ≤ 24 → k ≤ n - at → w ≡ value s at 24 → got (w / 2 ^ (24 - k)) (bits_left s n (at + k)) (at + k) ≡ field {P = plain} k (bits_left s n at) at
got_is s n at k w h l e = ap (λ (x : ℕ). got x (bits_left s n (at + k)) (at + k)) (window_first s at w k e h) ∙ sym (field_at s n at k l)

pub returns-then-width-count : goal.returns-then-width-count
returns-then-width-count c =
    let a = c.args in
    got_is a.bytes.now a.count a.at a.width _ c.requires.1 c.if-width-count.true c.window.ensures

pub returns-else-width-count : goal.returns-else-width-count
returns-else-width-count c =
    let a = c.args in sym (field-short a.bytes.now a.count a.at a.width c.if-width-count.false)
