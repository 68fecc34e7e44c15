-- Where the preceding vector counts as zero, test by test. Assumes nothing.
use mathlib.Core.Path.{◌≡◌}
use mathlib.Core.Bool.{true}
use Prim.Native.Nat.{ℕ, ◌+◌}
use borrow.Author.Tests.{eq-eqb, ne_eqb}
use lib.Dec.{eqb}
use Rattle.h261_description.specs.Vector.{restarts}

module _ (address step : ℕ) where
  pub restarts_first : address + step ≡ 1 → true ≡ restarts address step
  restarts_first e = rw (eq-eqb (address + step) 1 e)

  module _ (a : address + step ≡ 1 → ⊥) where
    pub restarts_second : address + step ≡ 12 → true ≡ restarts address step
    restarts_second e = rw (ne_eqb (address + step) 1 a, eq-eqb (address + step) 12 e)

    module _ (b : address + step ≡ 12 → ⊥) where
      pub restarts_third : address + step ≡ 23 → true ≡ restarts address step
      restarts_third e = rw (ne_eqb (address + step) 1 a, ne_eqb (address + step) 12 b, eq-eqb (address + step) 23 e)

      module _ (c : address + step ≡ 23 → ⊥) where
        pub restarts_far : (step ≡ 1 → ⊥) → true ≡ restarts address step
        restarts_far e = rw (ne_eqb (address + step) 1 a, ne_eqb (address + step) 12 b, ne_eqb (address + step) 23 c, ne_eqb step 1 e)

        pub restarts_else : step ≡ 1 → eqb address 0 ≡ restarts address step
        restarts_else e = rw (ne_eqb (address + step) 1 a, ne_eqb (address + step) 12 b, ne_eqb (address + step) 23 c, eq-eqb step 1 e)
