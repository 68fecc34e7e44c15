-- Blocks of samples, and blocks of zeros. Assumes nothing.
use mathlib.Core.Path.{◌≡◌, refl, sym}
use mathlib.Core.List.{List}
use Prim.Native.Nat.{ℕ, zero-le}
use lib.Dec.{lit≤}
use lib.IntN.{ℤ, pos}
use lib.ListN.{replicate}
use Rattle.laws.proofs.Integer.{low_up}
use Rattle.laws.specs.Block.{Is}
use Rattle.laws.proofs.Block.{is_each, fill_is}
use Rattle.quantiser.specs.Lines.{Small}
use Rattle.quantiser.specs.Sample.{Sample, Samples}
use Rattle.quantiser.proofs.SampleLaws.{byte_sample, sample_low}

-- a block that is made of samples
pub samples_of : {g : ℕ → ℕ → ℤ} {t : List (List ℤ)} → Is (pos 0) g t → ((i j : ℕ) → Sample (g i j)) → Samples t
samples_of h a = is_each Sample h (byte_sample 0 zero-le) a

-- and is small
pub samples_small : (t : List (List ℤ)) → Samples t → Small 256 t
samples_small t h i j = low_up 256 (sample_low (h i j)) (lit≤ tt)

-- a block of zeros
pub zeros_are : (g : ℕ → ℕ → ℤ) → ((i j : ℕ) → g i j ≡ pos 0) → Is (pos 0) g (replicate 8 (replicate 8 (pos 0)))
zeros_are g e = fill_is (pos 0) (λ i j. sym (e i j))

none : Is (pos 0) (λ i j. pos 0) (replicate 8 (replicate 8 (pos 0)))
none = zeros_are (λ i j. pos 0) (λ i j. refl)

pub zeros_samples : Samples (replicate 8 (replicate 8 (pos 0)))
zeros_samples = samples_of none (λ i j. byte_sample 0 zero-le)
