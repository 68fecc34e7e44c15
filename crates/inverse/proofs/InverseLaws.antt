-- The transform's outputs are small, and of nothing it makes nothing. Assumes nothing.
use mathlib.Core.Path.{◌≡◌, ap, ◌∙◌}
use mathlib.Core.List.{List}
use Prim.Native.Nat.{ℕ, ◌<◌, zero-le}
use lib.Dec.{lit≤}
use lib.IntN.{ℤ, pos, ◌*ℤ◌, zero-*ℤ}
use Rattle.laws.specs.Integer.{Low}
use Rattle.laws.specs.Floor.{floor_divided}
use Rattle.laws.specs.Block.{cell, Is}
use Rattle.laws.proofs.Block.{is_each}
use Rattle.laws.specs.Sum.{sum_z}
use Rattle.laws.proofs.Sum.{sum_ext}
use Rattle.quantiser.specs.Lines.{Small}
use Rattle.quantiser.specs.Cut.{cut, at_least, at_most}
use Rattle.quantiser.proofs.CutLaws.{cut_low}
use Rattle.inverse.specs.Inverse.{S, output, A, inverse_at, F}

-- ---- what the outputs are
pub output_low : (s : ℤ) → Low 256 (output s)
unfolding output
output_low s = cut_low 255 255 (lit≤ tt) (lit≤ tt) _

pub inverse_small : (block : List (List ℤ)) {result : List (List ℤ)} → Is (pos 0) (inverse_at block) result → Small 256 result
unfolding inverse_at
inverse_small block h = is_each (λ (z : ℤ). Low 256 z) h (record { low = zero-le }) (λ y x. output_low (S block x y))

-- A block of zeros adds nothing.
pub none_inverse : (block : List (List ℤ)) → ((i j : ℕ) → i < 8 → j < 8 → cell (pos 0) block i j ≡ pos 0) → (y x : ℕ) → inverse_at block y x ≡ pos 0
unfolding inverse_at S output cut at_least at_most floor_divided sum_z
none_inverse block none y x =
    ap output (sum_ext 8 _ (λ v. pos 0) (λ v l. sum_ext 8 _ (λ u. pos 0) (λ u m. zero u v (none v u l m))))
  where
    zero : (u v : ℕ) → F block u v ≡ pos 0 → F block u v *ℤ A u x *ℤ A v y ≡ pos 0
    zero u v e =
        ap (λ (z : ℤ). z *ℤ A u x *ℤ A v y) e ∙ ap (λ (z : ℤ). z *ℤ A v y) (zero-*ℤ (A u x)) ∙ zero-*ℤ (A v y)
