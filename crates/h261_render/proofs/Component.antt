-- A vector's component in a byte, and how far it goes in each plane. Assumes nothing.
use mathlib.Core.Path.{◌≡◌, refl, sym, ap}
use Prim.Native.Nat.{ℕ, zero, suc, ◌-◌, ◌/◌, ◌≤◌, ◌<◌}
use native.Mathlib.Omega.{arith}
use borrow.Author.Tests.{lt-ltb, le-ltb}
use mathlib.Core.Logic.{⊎_elim}
use Rattle.laws.proofs.Rows.{lt-or-ge}
use Rattle.size.proofs.Grid.{other_plane}
use Rattle.h261_description.specs.Vector.{ahead, back}
use Rattle.layout.specs.Flat.{number_of}
use Rattle.h261_description.specs.Moved.{halved_place}

pub ahead_low : (v : ℕ) → v < 128 → ahead (number_of v) ≡ v
ahead_low v l = simp (lt-ltb v 128 l)

pub ahead_high : (v : ℕ) → 128 ≤ v → ahead (number_of v) ≡ 0
ahead_high v l = simp (le-ltb v 128 l)

pub back_low : (v : ℕ) → v < 128 → back (number_of v) ≡ 0
back_low v l = simp (lt-ltb v 128 l)

pub back_high : (v : ℕ) → 128 ≤ v → v ≤ 255 → back (number_of v) ≡ 256 - v
back_high v l m = simp (le-ltb v 128 l) (omega arith)

pub halved_whole : (p n : ℕ) → p ≡ 0 → halved_place p n ≡ n
halved_whole p n e = ap (λ (q : ℕ). halved_place q n) e

pub halved_half : (p n : ℕ) → (p ≡ 0 → ⊥) → halved_place p n ≡ n / 2
halved_half p n e = ap (λ (q : ℕ). halved_place q n) (sym (other_plane p e))

pub halved_none : (p : ℕ) → halved_place p 0 ≡ 0
halved_none zero = refl
halved_none (suc p) = refl

ahead_cases : (v : ℕ) → ahead (number_of v) ≤ v
ahead_cases v = ⊎_elim (λ l. omega (arith, ahead_low v l)) (λ l. omega (arith, ahead_high v l)) (lt-or-ge v 128)

pub ahead_most : (p v : ℕ) → v ≤ 255 → halved_place p (ahead (number_of v)) ≤ 255
ahead_most zero v l = go (ahead_cases v)
  where
    go : ahead (number_of v) ≤ v → ahead (number_of v) ≤ 255
    go h = omega arith
ahead_most (suc p) v l = go (ahead_cases v)
  where
    go : ahead (number_of v) ≤ v → ahead (number_of v) / 2 ≤ 255
    go h = omega arith
