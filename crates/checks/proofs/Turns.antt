-- A turn of each loop, and its end. Assumes nothing.
use mathlib.Core.Path.{◌≡◌, refl, sym, ap, ◌∙◌}
use mathlib.Core.List.{List}
use Prim.Native.Nat.{ℕ, ◌+◌, ◌<◌, ◌≤◌}
use native.Mathlib.Omega.{arith}
use lib.ListN.{length, get_or, drop, drop_of_length-le}
use Rattle.laws.proofs.Lists.{drop_on}
use Rattle.checks.specs.Check.{mixed, check_from}

-- ---- the check: what it makes of the rest of the bytes is what h makes of them all
pub record CheckedSoFar (h : ℕ) (bytes : List ℕ) (on i : ℕ) : Type 0 where
  pub low : on < 4294967291
  pub still : check_from on (drop i bytes) ≡ check_from h bytes

pub checked_none : (h : ℕ) (bytes : List ℕ) → h < 4294967291 → CheckedSoFar h bytes h 0
checked_none h bytes l = record { low = l; still = refl }

pub checked_more : {h on i b : ℕ} (bytes : List ℕ) → CheckedSoFar h bytes on i → i < length bytes → b ≡ get_or bytes i 0 → CheckedSoFar h bytes (mixed on b) (i + 1)
unfolding check_from
checked_more {h} {on} {i} {b} bytes s l e =
    record {
      low = omega arith;
      still = ap (λ (x : ℕ). check_from (mixed on x) (drop (i + 1) bytes)) e ∙ sym (ap (check_from on) (drop_on bytes i l)) ∙ s.still;
    }

pub checked_all : {h on i : ℕ} (bytes : List ℕ) → CheckedSoFar h bytes on i → length bytes ≤ i → (on ≡ check_from h bytes) × (on < 4294967291)
unfolding check_from
checked_all {h} {on} bytes s l = (sym (ap (check_from on) (drop_of_length-le bytes l)) ∙ s.still, s.low)

-- three slices, one check
pub checked_three : {g h k : ℕ} (a b c : List ℕ) → g ≡ check_from 1 a → h ≡ check_from g b → k ≡ check_from h c → k ≡ check_from (check_from (check_from 1 a) b) c
checked_three a b c p q r = r ∙ ap (λ (x : ℕ). check_from x c) (q ∙ ap (λ (x : ℕ). check_from x b) p)
