-- Linear expressions over ℤ, decided by their coefficients: two ways to write one sum are equal where a computed test says so. Assumes nothing.
use Rattle.std.specs.Prelude.{ℕ, ℤ, ◌+ℤ◌, ◌-ℤ◌, ◌*ℤ◌}

-- ---- expressions
pub data Lin : Type 0 where
  term : ℕ → ℤ → Lin
  plus less : Lin → Lin → Lin

abbrev pub eval : (ℕ → ℤ) → Lin → ℤ
eval ρ (term i k) = ρ i *ℤ k
eval ρ (plus a b) = eval ρ a +ℤ eval ρ b
eval ρ (less a b) = eval ρ a -ℤ eval ρ b
