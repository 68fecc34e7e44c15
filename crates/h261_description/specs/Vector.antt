-- The rules that a vector obeys, and the vector that precedes it. Assumes nothing.
use Rattle.std.specs.Prelude.{ℕ, suc, ◌+◌, Bool, [], ◌∷◌, leb, eqb, ℤ, pos, negsuc, nat_abs}
use Rattle.laws.specs.Choice.{pick, both, either, opposite, one_of}
use Rattle.layout.specs.Value.{Vector, zero_vector}
use Rattle.size.specs.Size.{width, height}
use Rattle.h261_groups.specs.Format.{column, row, size_of}
use Rattle.h261_groups.specs.declared.Format.{Format}

-- ---- one component
abbrev pub in_range : ℤ → Bool
in_range z = leb (nat_abs z) 15

-- ---- both
-- how far a component goes on, and how far back
abbrev pub ahead : ℤ → ℕ
ahead (pos n) = n
ahead (negsuc n) = 0

abbrev pub back : ℤ → ℕ
back (pos n) = 0
back (negsuc n) = suc n

-- of 16 samples from `from` on, moved by z, all lie among the first `end`
abbrev pub inside : ℕ → ℕ → ℤ → Bool
inside end from z = both (leb (back z) from) (leb (from + ahead z + 16) (end + back z))

-- "All samples used by the 16 by 16 luminance part must lie in the picture"
abbrev pub in_picture : Format → ℕ → ℕ → Vector → Bool
in_picture f group address v =
    both (inside (width (size_of f)) (column group address) v.horizontal) (inside (height (size_of f)) (row group address) v.vertical)

-- ---- the preceding vector
-- where a group stands: the address of the last macroblock sent, 0 before the first, and its vector, zero where it isn't MC
pub record Before : Type 0 where
  pub address : ℕ
  pub vector : Vector

abbrev pub at_start : Before
at_start = record { address = 0; vector = zero_vector }

-- "The preceding vector counts as zero at macroblocks 1, 12, 23, where MBA isn't a step of 1 or is the group's first, and after a macroblock that isn't MC."
abbrev pub restarts : ℕ → ℕ → Bool
restarts address step = either (one_of (1 ∷ 12 ∷ 23 ∷ []) (address + step)) (either (opposite (eqb step 1)) (eqb address 0))

abbrev pub preceding : Before → ℕ → Vector
preceding before step = pick (restarts before.address step) zero_vector before.vector
