-- Laws of `clear`: unused bits zero, byte by byte. Assumes nothing.
use mathlib.Core.Path.{◌≡◌, refl, ap, ◌∙◌}
use mathlib.Core.Bool.{true, false}
use mathlib.Core.Logic.{⊎_elim}
use mathlib.Core.List.{List}
use Prim.Native.Nat.{ℕ, zero, suc, ◌+◌, ◌/◌, ◌%◌, ◌^◌, ◌≤◌, ◌<◌}
use native.Mathlib.Nat.{le_refl, eq-or-lt_of_le, le_of_suc-le-suc, not-suc-le-zero, le_step, mod-one}
use native.Mathlib.Numerals.{add-one}
use native.Mathlib.Omega.{arith}
use lib.ListN.{get_or}
use borrow.Author.Tests.{eq-eqb, ne_eqb}
use Rattle.laws.proofs.Choice.{two_of, first_no, second_no}
use Rattle.vault.specs.Block.{unused, unused_clear}

module _ (used : ℕ) (payload : List ℕ) where
  -- the unused bits of byte i
  abbrev left : ℕ → ℕ
  left i = get_or payload i 0 % 2 ^ unused used i

  pub clear_all : (n : ℕ) → ((i : ℕ) → i < n → left i ≡ 0) → unused_clear used payload n ≡ true
  unfolding unused_clear
  clear_all zero h = refl
  clear_all (suc n) h = rw (clear_all n (λ i l. h i (le_step l)), eq-eqb (left n) 0 (h n (le_refl (suc n))))

  -- bytes before the one in which the unused bits begin have none
  pub clear_start : (n : ℕ) → n ≤ used / 8 → unused_clear used payload n ≡ true
  clear_start n l = clear_all n (λ i k. ap (λ (m : ℕ). get_or payload i 0 % 2 ^ m) (none i k) ∙ mod-one (get_or payload i 0))
    where
      none : (i : ℕ) → i < n → unused used i ≡ 0
      none i k = omega arith

  pub clear_more : (i : ℕ) → unused_clear used payload i ≡ true → left i ≡ 0 → unused_clear used payload (i + 1) ≡ true
  unfolding unused_clear
  clear_more i h e = rw (add-one i, h, eq-eqb (left i) 0 e)

  -- one byte whose unused bits are not zero
  pub clear_fails : (i n : ℕ) → i < n → (left i ≡ 0 → ⊥) → unused_clear used payload n ≡ false
  unfolding unused_clear
  clear_fails i zero l h = absurd (not-suc-le-zero l)
  clear_fails i (suc n) l h =
      ⊎_elim
      (λ e. second_no (unused_clear used payload n) _ (ne_eqb (left n) 0 (λ z. h (ap left e ∙ z))))
      (λ s. first_no (unused_clear used payload n) _ (clear_fails i n s h))
      (eq-or-lt_of_le (le_of_suc-le-suc l))

  pub clear_less : (n m : ℕ) → n ≤ m → unused_clear used payload m ≡ true → unused_clear used payload n ≡ true
  unfolding unused_clear
  clear_less n zero l h = ap (unused_clear used payload) (none l) ∙ h
    where
      none : n ≤ 0 → n ≡ 0
      none l = omega arith
  clear_less n (suc m) l h =
      ⊎_elim
      (λ e. ap (unused_clear used payload) e ∙ h)
      (λ s. clear_less n m (le_of_suc-le-suc s) (two_of (unused_clear used payload m) _ h).0)
      (eq-or-lt_of_le l)
