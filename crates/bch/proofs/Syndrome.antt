-- What a word leaves when it is divided tells only where it differs from a codeword. Assumes nothing.
use mathlib.Core.Path.{◌≡◌, refl, sym, ap, ap₂, ◌∙◌}
use mathlib.Core.List.{List, [], ◌∷◌}
use Prim.Native.Nat.{ℕ, zero, suc, ◌/◌, ◌%◌, ◌^◌}
use native.Mathlib.Nat.{mod-lt}
use native.Mathlib.Omega.{arith}
use lib.Dec.{lit<}
use lib.Bits.{xor_shr, xor_mod, xor_zero_r}
use lib.ListN.{length}
use Rattle.laws.specs.Xor.{◌⊕◌}
use Rattle.laws.proofs.Xor.{xor_assoc, xor_swap}
use Rattle.bits.specs.Bits.{Bit, bit0, bit1, bit_of, num, bits_of}
use Rattle.bits.proofs.Value.{num-bit_of}
use Rattle.bch.specs.Division.{Divisor, up, fed, raised}
use Rattle.bch.proofs.Division.{up-xor, raised-xor, raised-zero}
use Rattle.bch.specs.Word.{errors}
use Rattle.bch.specs.Code.{generator, remainder, Codeword}
use Rattle.bch.specs.Locate.{part}

-- the sum of the powers of x at these places
unfoldable pub sum_of : Divisor → List ℕ → ℕ
sum_of d [] = 0
sum_of d (n ∷ ns) = raised d n 1 ⊕ sum_of d ns

module _ (d : Divisor) where
  pub fed-errors : (f c : List Bit) (a b : ℕ) → length f ≡ length c → fed d f a ⊕ fed d c b ≡ raised d (length f) (a ⊕ b) ⊕ sum_of d (errors f c)
  unfolding fed raised errors sum_of
  fed-errors [] [] a b e = sym (xor_zero_r (a ⊕ b))
  fed-errors [] (y ∷ c) a b e = absurd (omega arith)
  fed-errors (x ∷ f) [] a b e = absurd (omega arith)
  fed-errors (x ∷ f) (y ∷ c) a b e =
      fed-errors f c (up d a ⊕ num x) (up d b ⊕ num y) (omega arith)
      ∙ ap (λ (s : ℕ). raised d (length f) s ⊕ sum_of d (errors f c))
      (xor_swap (up d a) (num x) (up d b) (num y) ∙ ap (λ (s : ℕ). s ⊕ (num x ⊕ num y)) (sym (up-xor d a b)))
      ∙ ap (λ (s : ℕ). s ⊕ sum_of d (errors f c)) (raised-xor d (length f) (up d (a ⊕ b)) (num x ⊕ num y))
      ∙ go x y (raised d (length f) (up d (a ⊕ b)))
    where
      even : (r : ℕ) → r ⊕ raised d (length f) 0 ⊕ sum_of d (errors f c) ≡ r ⊕ sum_of d (errors f c)
      even r = ap (λ (s : ℕ). s ⊕ sum_of d (errors f c)) (ap (λ (s : ℕ). r ⊕ s) (raised-zero d (length f)) ∙ xor_zero_r r)

      go : (x y : Bit) (r : ℕ) → r ⊕ raised d (length f) (num x ⊕ num y) ⊕ sum_of d (errors f c) ≡ r ⊕ sum_of d (errors (x ∷ f) (y ∷ c))
      go bit0 bit0 r = even r
      go bit0 bit1 r = xor_assoc r (raised d (length f) 1) (sum_of d (errors f c))
      go bit1 bit0 r = xor_assoc r (raised d (length f) 1) (sum_of d (errors f c))
      go bit1 bit1 r = even r

-- a word leaves the sum of the powers at the places in which it differs from a codeword
pub remainder-errors : (f c : List Bit) → length f ≡ 511 → Codeword c → remainder f ≡ sum_of generator (errors f c)
remainder-errors f c e k =
    sym (xor_zero_r (remainder f)) ∙ ap (λ (s : ℕ). remainder f ⊕ s) (sym k.divided)
    ∙ fed-errors generator f c 0 0 (e ∙ sym k.size) ∙ ap (λ (s : ℕ). s ⊕ sum_of generator (errors f c)) (raised-zero generator (length f))

-- ---- the remainder by a factor is additive
pub num_odd : (x : ℕ) → num (bit_of (x % 2)) ≡ x % 2
num_odd x = num-bit_of (x % 2) (mod-lt x (lit< tt))

bit_xor : (a b k : ℕ) → num (bit_of ((a ⊕ b) / 2 ^ k % 2)) ≡ num (bit_of (a / 2 ^ k % 2)) ⊕ num (bit_of (b / 2 ^ k % 2))
bit_xor a b k =
    num_odd ((a ⊕ b) / 2 ^ k) ∙ ap (λ (x : ℕ). x % 2) (xor_shr a b k) ∙ xor_mod (a / 2 ^ k) (b / 2 ^ k) 1
    ∙ sym (ap₂ ◌⊕◌ (num_odd (a / 2 ^ k)) (num_odd (b / 2 ^ k)))

module _ (d : Divisor) where
  pub bits_xor : (k a b r s : ℕ) → fed d (bits_of k (a ⊕ b)) (r ⊕ s) ≡ fed d (bits_of k a) r ⊕ fed d (bits_of k b) s
  unfolding fed
  bits_xor zero a b r s = refl
  bits_xor (suc k) a b r s =
      ap (fed d (bits_of k (a ⊕ b)))
      (ap₂ ◌⊕◌ (up-xor d r s) (bit_xor a b k) ∙ xor_swap (up d r) (up d s) (num (bit_of (a / 2 ^ k % 2))) (num (bit_of (b / 2 ^ k % 2))))
      ∙ bits_xor k a b (up d r ⊕ num (bit_of (a / 2 ^ k % 2))) (up d s ⊕ num (bit_of (b / 2 ^ k % 2)))

  pub part-xor : (a b : ℕ) → part d (a ⊕ b) ≡ part d a ⊕ part d b
  unfolding part
  part-xor a b = ap (fed d (bits_of 9 (a ⊕ b))) (xor_shr a b 9) ∙ bits_xor 9 a b (a / 2 ^ 9) (b / 2 ^ 9)
