-- What a coding is: from bits to a description of a picture and back, and from a description to samples. H.261 and H.263 are two (H261.antt, H263.antt). Assumes nothing.
use Rattle.std.specs.Prelude.{ℕ, Bool, List}
use Rattle.refusals.specs.Told.{Told}
use Rattle.bits.specs.Bits.{Bit}

-- over descriptions D
pub record Coding (D : Type 0) : Type 0 where
  -- the description that the first N bits of lent bytes are, or the refusal's number and place
  pub read : List ℕ → ℕ → Told D
  -- whether its slices have named lengths
  pub named : D → Bool
  pub valid : D → Bool
  -- "A refresh picture sends every macroblock as INTRA."
  pub refresh : D → Bool
  -- the bits of its picture
  pub written : D → List Bit
  -- its store over a reference
  pub render : D → List ℕ → List ℕ
  -- TR, and the number that it is counted modulo
  pub tr : D → ℕ
  pub modulus : ℕ
