-- Division of polynomials is additive, and what is left stays below the divisor. Assumes nothing.
use mathlib.Core.Path.{◌≡◌, refl, ap, ap₂, ◌∙◌}
use mathlib.Core.List.{List, [], ◌∷◌, ◌++◌}
use Prim.Native.Nat.{ℕ, zero, suc, ◌+◌, ◌*◌, ◌/◌, ◌%◌, ◌^◌, ◌<◌}
use native.Mathlib.Nat.{zero-add, suc-add, zero-mul, one-mul, pow-suc, mod-lt}
use native.Mathlib.Omega.{arith}
use lib.Dec.{lit<}
use lib.Pow.{pow_pos}
use lib.Bits.{xor_lt, xor_shr, xor_mod, xor_self}
use Rattle.laws.specs.Xor.{◌⊕◌}
use Rattle.laws.proofs.Xor.{xor_swap, xor_double, xor_scaled}
use Rattle.bits.specs.Bits.{Bit, num}
use Rattle.bits.proofs.Numbers.{num_small}
use Rattle.bch.specs.Division.{Divisor, up, fed, raised}

module _ (d : Divisor) where
  pub up-xor : (r s : ℕ) → up d (r ⊕ s) ≡ up d r ⊕ up d s
  unfolding up
  up-xor r s =
      ap₂ ◌⊕◌
      (ap (λ (x : ℕ). x * 2) (xor_mod r s d.top) ∙ xor_double (r % 2 ^ d.top) (s % 2 ^ d.top))
      (ap (λ (x : ℕ). x % 2 * d.rest) (xor_shr r s d.top) ∙ ap (λ (x : ℕ). x * d.rest) (xor_mod (r / 2 ^ d.top) (s / 2 ^ d.top) 1)
      ∙ xor_scaled (r / 2 ^ d.top % 2) (s / 2 ^ d.top % 2) d.rest (mod-lt _ (lit< tt)) (mod-lt _ (lit< tt)))
      ∙ xor_swap (r % 2 ^ d.top * 2) (s % 2 ^ d.top * 2) (r / 2 ^ d.top % 2 * d.rest) (s / 2 ^ d.top % 2 * d.rest)

  -- rest is of degree top at most
  pub up_lt : (r : ℕ) → d.rest < 2 ^ suc d.top → up d r < 2 ^ suc d.top
  unfolding up
  up_lt r l = xor_lt (suc d.top) (r % 2 ^ d.top * 2) (r / 2 ^ d.top % 2 * d.rest) moved (scaled (r / 2 ^ d.top % 2) (mod-lt _ (lit< tt)))
    where
      moved : r % 2 ^ d.top * 2 < 2 ^ suc d.top
      moved = omega (arith, pow-suc 2 d.top, mod-lt r (pow_pos d.top))

      scaled : (b : ℕ) → b < 2 → b * d.rest < 2 ^ suc d.top
      scaled zero m = omega (arith, zero-mul d.rest)
      scaled (suc zero) m = omega (arith, one-mul d.rest)
      scaled (suc (suc b)) m = absurd (omega arith)

  pub raised-xor : (n r s : ℕ) → raised d n (r ⊕ s) ≡ raised d n r ⊕ raised d n s
  unfolding raised
  raised-xor zero r s = refl
  raised-xor (suc n) r s = ap (raised d n) (up-xor r s) ∙ raised-xor n (up d r) (up d s)

  pub raised-zero : (n : ℕ) → raised d n 0 ≡ 0
  raised-zero n = raised-xor n 0 0 ∙ xor_self (raised d n 0)

  pub raised-add : (m n r : ℕ) → raised d (m + n) r ≡ raised d n (raised d m r)
  unfolding raised
  raised-add zero n r = ap (λ (k : ℕ). raised d k r) (zero-add n)
  raised-add (suc m) n r = ap (λ (k : ℕ). raised d k r) (suc-add m n) ∙ raised-add m n (up d r)

  pub fed-append : (w v : List Bit) (r : ℕ) → fed d (w ++ v) r ≡ fed d v (fed d w r)
  unfolding fed
  fed-append [] v r = refl
  fed-append (b ∷ w) v r = fed-append w v (up d r ⊕ num b)

  pub fed-lt : d.rest < 2 ^ suc d.top → (w : List Bit) (r : ℕ) → r < 2 ^ suc d.top → fed d w r < 2 ^ suc d.top
  unfolding fed
  fed-lt l [] r m = m
  fed-lt l (b ∷ w) r m = fed-lt l w (up d r ⊕ num b) (xor_lt (suc d.top) (up d r) (num b) (up_lt r l) (omega (arith, pow-suc 2 d.top, pow_pos d.top, num_small b)))
