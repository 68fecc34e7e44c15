-- PTYPE under its rule, on plain values. Assumes nothing.
use mathlib.Core.Path.{◌≡◌, refl}
use Prim.Native.Nat.{ℕ, zero, suc, ◌/◌, ◌%◌, ◌<◌}
use native.Mathlib.Omega.{arith}
use borrow.Author.Tests.{eq-eqb, ne_eqb}
use Rattle.refusals.specs.declared.Reason.TheVariants.{OtherFormat}
use Rattle.bits.specs.Read.{fine, against}
use Rattle.h261_groups.specs.Format.{format_bit}
use Rattle.h261_groups.specs.declared.Format.{Format}
use Rattle.h261_layers.specs.Grammar.{ptype_of}

module _ (v : ℕ) (f : Format) where
  pub ptype_other : (v / 4 % 2 ≡ format_bit f → ⊥) → ptype_of f v ≡ against OtherFormat
  ptype_other h = rw (ne_eqb (v / 4 % 2) (format_bit f) h)

  pub ptype_still : v / 4 % 2 ≡ format_bit f → v / 2 % 2 ≡ 0 → ptype_of f v ≡ against OtherFormat
  ptype_still h k = rw (eq-eqb (v / 4 % 2) (format_bit f) h, ne_eqb (v / 2 % 2) 1 (λ z. omega arith))

  pub ptype_yes : v / 4 % 2 ≡ format_bit f → (v / 2 % 2 ≡ 0 → ⊥) → ptype_of f v ≡ fine (v / 8)
  ptype_yes h k = rw (eq-eqb (v / 4 % 2) (format_bit f) h, eq-eqb (v / 2 % 2) 1 (one (v / 2 % 2) k (omega arith)))
    where
      one : (b : ℕ) → (b ≡ 0 → ⊥) → b < 2 → b ≡ 1
      one zero n l = absurd (n refl)
      one (suc b) n l = omega arith
