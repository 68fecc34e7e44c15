-- Laws of a picture's bytes with the bits after its last one zero, and of the payloads cut from them. Assumes nothing.
use mathlib.Core.Path.{◌≡◌, ap, ◌∙◌}
use mathlib.Core.List.{List}
use Prim.Native.Nat.{ℕ, ◌+◌, ◌*◌, ◌/◌, ◌%◌, ◌^◌, ◌≤◌, ◌<◌}
use native.Mathlib.Nat.{zero-div, mul-mod_left, div-add-mod'}
use native.Mathlib.Omega.{arith}
use lib.ListN.{length, get_or, get_or-eq_default}
use Rattle.laws.proofs.Row.{length-row, get_d_row}
use Rattle.vault.specs.Block.{unused}
use Rattle.vault.specs.Parts.{kept_byte, payload_at}

module _ (bytes : List ℕ) (count : ℕ) where
  pub kept_past : (i : ℕ) → length bytes ≤ i → kept_byte bytes count i ≡ 0
  kept_past i l = rw (get_or-eq_default bytes 0 l, zero-div (2 ^ unused count i)) (none (2 ^ unused count i))
    where
      none : (m : ℕ) → 0 * m ≡ 0
      none m = omega arith

  -- a byte that the picture fills is as it was
  pub kept_whole : (i : ℕ) → 8 * (i + 1) ≤ count → kept_byte bytes count i ≡ get_or bytes i 0
  kept_whole i l = ap (λ (n : ℕ). get_or bytes i 0 / 2 ^ n * 2 ^ n) all ∙ whole (get_or bytes i 0)
    where
      all : unused count i ≡ 0
      all = omega arith

      whole : (x : ℕ) → x / 1 * 1 ≡ x
      whole x = omega arith

  -- and so is any byte whose bits after the last one are zero
  pub kept_clear : (i : ℕ) → get_or bytes i 0 % 2 ^ unused count i ≡ 0 → kept_byte bytes count i ≡ get_or bytes i 0
  kept_clear i e = whole _ _ _ (div-add-mod' (get_or bytes i 0) (2 ^ unused count i)) e
    where
      whole : (q r x : ℕ) → q + r ≡ x → r ≡ 0 → q ≡ x
      whole q r x p e = omega arith

  pub kept_zero : (i : ℕ) → kept_byte bytes count i % 2 ^ unused count i ≡ 0
  kept_zero i = mul-mod_left (get_or bytes i 0 / 2 ^ unused count i) (2 ^ unused count i)

  pub payload_length : (part : ℕ) → length (payload_at bytes count part) ≡ 500
  unfolding payload_at
  payload_length part = length-row 500 _

  pub payload_byte : (part j : ℕ) → j < 500 → get_or (payload_at bytes count part) j 0 ≡ kept_byte bytes count (500 * part + j)
  unfolding payload_at
  payload_byte part j l = get_d_row 500 (λ j. kept_byte bytes count (500 * part + j)) 0 j l
