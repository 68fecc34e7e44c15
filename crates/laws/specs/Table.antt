-- A test at every number below n, computed once. Assumes nothing.
use Rattle.std.specs.Prelude.{Bool, true, false, ℕ, zero, suc, eqb, ℤ, pos, negsuc}
use Rattle.laws.specs.Choice.{both}

abbrev pub all_b : ℕ → (ℕ → Bool) → Bool
all_b zero p = true
all_b (suc n) p = both (p n) (all_b n p)

abbrev pub eq_z : ℤ → ℤ → Bool
eq_z (pos a) (pos b) = eqb a b
eq_z (pos a) (negsuc b) = false
eq_z (negsuc a) (pos b) = false
eq_z (negsuc a) (negsuc b) = eqb a b
