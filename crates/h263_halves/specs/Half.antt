-- Samples half way between others. Document 02: "half-sample prediction"; H.263, Figure 12, in one formula for its four cases. Assumes nothing.
use Rattle.std.specs.Prelude.{ℕ, ◌+◌, ◌/◌}

-- the samples of a plane, by row and column
abbrev pub Plane : Type 0
Plane = ℕ → ℕ → ℕ

-- row k, column h, in half samples: the mean of the samples on both sides, rounded up at the half. "Interpolation rounds up at the half: (A + B + 1) / 2, (A + B + C + D + 2) / 4."
-- Where k or h is even, both sides are one.
unfoldable pub half_sample : Plane → ℕ → ℕ → ℕ
half_sample s k h = (s (k / 2) (h / 2) + s (k / 2) ((h + 1) / 2) + s ((k + 1) / 2) (h / 2) + s ((k + 1) / 2) ((h + 1) / 2) + 2) / 4
