-- What a store's byte is: "prediction (0 for INTRA) plus transform output, cut to 0..255". Assumes nothing.
use Rattle.std.specs.Prelude.{◌≡◌, List, ℕ, ◌≤◌, ℤ, pos, nat_abs, ◌+ℤ◌}
use Rattle.laws.specs.Block.{cell}
use Rattle.quantiser.specs.Cut.{cut}

unfoldable pub sample_of : ℤ → ℤ → ℕ
sample_of prediction difference = nat_abs (cut (pos 0) (pos 255) (prediction +ℤ difference))

-- z is one of 0..m
pub record UpTo (m : ℕ) (z : ℤ) : Type 0 where
  pub value : ℕ
  pub is : z ≡ pos value
  pub most : value ≤ m

abbrev pub Sample : ℤ → Type 0
Sample z = UpTo 255 z

-- every number of a block is a sample
abbrev pub Samples : List (List ℤ) → Type 0
Samples block = (i j : ℕ) → Sample (cell (pos 0) block i j)
