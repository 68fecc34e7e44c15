-- A component is its predictor and a difference, modulo 64: "A word's two differences are 64 apart and the range has 64 values, so exactly one lands: the range never refuses." Assumes nothing.
use Rattle.std.specs.Prelude.{ℕ, ◌+◌, ◌-◌, ◌%◌, ◌<◌, ◌≡◌, true, false, T, ltb, ℤ, pos, nat_abs, ◌+ℤ◌, ◌-ℤ◌}
use Rattle.laws.specs.Choice.{pick, either, alike, opposite}
use Rattle.h263_description.specs.Vector.{in_range}

-- ---- a component, kept as 32 more than it is: 0 to 63. So are the differences that the words of MVD stand for, as printed: -32 to 31
abbrev pub component_of : ℕ → ℤ
component_of k = pos k -ℤ pos 32

abbrev pub residue_of : ℤ → ℕ
residue_of z = nat_abs (z +ℤ pos 32)

-- "each but 0 stands for itself and the number 64 away"
abbrev pub away_of : ℕ → ℤ
away_of m = pick (ltb m 32) (component_of m +ℤ pos 64) (pick (ltb 32 m) (component_of m -ℤ pos 64) (component_of m))

-- ---- "v = ((p + d + 32) mod 64) - 32", and the difference back from it, all three kept as 32 more
unfoldable pub wrapped_sum : ℕ → ℕ → ℕ
wrapped_sum predictor difference = (predictor + difference + 32) % 64

unfoldable pub wrapped_difference : ℕ → ℕ → ℕ
wrapped_difference component predictor = (component + 96 - predictor) % 64

-- ---- of the two numbers of word m the printed one lands, or else the other; what lands is the sum modulo 64
pub record Landed (predictor : ℤ) (m : ℕ) : Type 0 where
  pub printed : in_range (predictor +ℤ component_of m) ≡ true → predictor +ℤ component_of m ≡ component_of (wrapped_sum (residue_of predictor) m)
  pub other : in_range (predictor +ℤ component_of m) ≡ false → (in_range (predictor +ℤ away_of m) ≡ true) × (predictor +ℤ away_of m ≡ component_of (wrapped_sum (residue_of predictor) m))

abbrev pub EachLands : Type 0
EachLands = (predictor : ℤ) (m : ℕ) → T (in_range predictor) → m < 64 → Landed predictor m

-- "the range never refuses", and of two numbers never both land
abbrev pub OneLands : Type 0
OneLands =
    (predictor : ℤ) (m : ℕ) → T (in_range predictor) → m < 64
    → T (either (in_range (predictor +ℤ component_of m)) (in_range (predictor +ℤ away_of m)))
    × ((m ≡ 32 → ⊥) → T (opposite (alike (in_range (predictor +ℤ component_of m)) (in_range (predictor +ℤ away_of m)))))
