-- Laws of the exclusive or of numbers that lib.Bits lacks. Assumes nothing.
use mathlib.Core.Path.{◌≡◌, refl, sym, ap, ap₂, subst, ◌∙◌}
use Prim.Native.Nat.{ℕ, zero, suc, ◌+◌, ◌*◌, ◌/◌, ◌%◌, ◌^◌, ◌<◌}
use native.Mathlib.Nat.{le_refl, le-suc, le_trans, zero-mul, one-mul, mod-lt}
use native.Mathlib.Numerals.{one-add}
use native.Mathlib.Omega.{arith}
use lib.Arith.{bin_ind, lt-one}
use lib.Dec.{lit<}
use lib.Pow.{pow_pos, shr_lt, split}
use lib.Bits.{bit_xor, differ, xor_step, xor_shr, xor_mod, xor_block, xor_comm, xor_self, xor_zero_r, xor_shifted}
use Rattle.laws.specs.Xor.{◌⊕◌}

digit_assoc : (x y z : ℕ) → x < 2 → y < 2 → z < 2 → differ (x ⊕ y) z ≡ differ x (y ⊕ z)
digit_assoc zero y z p q r = digits y z q r
  where
    digits : (y z : ℕ) → y < 2 → z < 2 → differ y z ≡ y ⊕ z
    digits zero z q r = refl
    digits (suc zero) zero q r = refl
    digits (suc zero) (suc zero) q r = refl
    digits (suc zero) (suc (suc z)) q r = absurd (omega arith)
    digits (suc (suc y)) z q r = absurd (omega arith)
digit_assoc (suc zero) zero z p q r = refl
digit_assoc (suc zero) (suc zero) zero p q r = refl
digit_assoc (suc zero) (suc zero) (suc zero) p q r = refl
digit_assoc (suc zero) (suc zero) (suc (suc z)) p q r = absurd (omega arith)
digit_assoc (suc zero) (suc (suc y)) z p q r = absurd (omega arith)
digit_assoc (suc (suc x)) y z p q r = absurd (omega arith)

pub xor_assoc : (a b c : ℕ) → a ⊕ b ⊕ c ≡ a ⊕ (b ⊕ c)
xor_assoc =
    bin_ind (λ (a : ℕ). (b c : ℕ) → a ⊕ b ⊕ c ≡ a ⊕ (b ⊕ c)) (λ b c. refl)
    (λ a more b c.
    xor_step (a ⊕ b) c
    ∙ ap₂ (λ (x y : ℕ). (x ⊕ c / 2) * 2 + differ y (c % 2)) (xor_shr a b 1) (xor_mod a b 1)
    ∙ ap₂ (λ (x y : ℕ). x * 2 + y) (more (b / 2) (c / 2)) (digit_assoc (a % 2) (b % 2) (c % 2) (mod-lt a (lit< tt)) (mod-lt b (lit< tt)) (mod-lt c (lit< tt)))
    ∙ sym (xor_step a (b ⊕ c) ∙ ap₂ (λ (x y : ℕ). (a / 2 ⊕ x) * 2 + differ (a % 2) y) (xor_shr b c 1) (xor_mod b c 1)))

pub xor_swap : (a b c d : ℕ) → a ⊕ b ⊕ (c ⊕ d) ≡ a ⊕ c ⊕ (b ⊕ d)
xor_swap a b c d =
    xor_assoc a b (c ⊕ d) ∙ ap (λ (x : ℕ). a ⊕ x) (sym (xor_assoc b c d) ∙ ap (λ (x : ℕ). x ⊕ d) (xor_comm b c) ∙ xor_assoc c b d)
    ∙ sym (xor_assoc a c (b ⊕ d))

pub xor_equal : (a b : ℕ) → a ⊕ b ≡ 0 → a ≡ b
xor_equal a b e = sym (xor_zero_r a) ∙ ap (λ (x : ℕ). a ⊕ x) (sym (xor_self b)) ∙ sym (xor_assoc a b b) ∙ ap (λ (x : ℕ). x ⊕ b) e

pub xor_double : (a b : ℕ) → (a ⊕ b) * 2 ≡ a * 2 ⊕ b * 2
xor_double a b =
    let p : a * 2 ≡ a * 2 + 0 = omega arith in
    let q : b * 2 ≡ b * 2 + 0 = omega arith in
    let r : (a ⊕ b) * 2 + 0 ≡ (a ⊕ b) * 2 = omega arith in
    sym r ∙ sym (xor_block 1 a b 0 0 (lit< tt) (lit< tt)) ∙ sym (ap₂ bit_xor p q)

-- one bit, none or once
pub xor_scaled : (x y m : ℕ) → x < 2 → y < 2 → (x ⊕ y) * m ≡ x * m ⊕ y * m
xor_scaled zero y m p q = sym (ap (λ (n : ℕ). n ⊕ y * m) (zero-mul m))
xor_scaled (suc zero) zero m p q = sym (ap (λ (n : ℕ). 1 * m ⊕ n) (zero-mul m) ∙ xor_zero_r (1 * m))
xor_scaled (suc zero) (suc zero) m p q = zero-mul m ∙ sym (xor_self (1 * m))
xor_scaled (suc zero) (suc (suc y)) m p q = absurd (omega arith)
xor_scaled (suc (suc x)) y m p q = absurd (omega arith)

-- two additive functions that agree at the powers of two agree
module _ (f g : ℕ → ℕ) (f_add : (a b : ℕ) → f (a ⊕ b) ≡ f a ⊕ f b) (g_add : (a b : ℕ) → g (a ⊕ b) ≡ g a ⊕ g b) where
  nothing : f 0 ≡ g 0
  nothing = f_add 0 0 ∙ xor_self (f 0) ∙ sym (g_add 0 0 ∙ xor_self (g 0))

  one_bit : (h k : ℕ) → h < 2 → f (2 ^ k) ≡ g (2 ^ k) → f (h * 2 ^ k) ≡ g (h * 2 ^ k)
  one_bit zero k l e = ap f (zero-mul (2 ^ k)) ∙ nothing ∙ sym (ap g (zero-mul (2 ^ k)))
  one_bit (suc zero) k l e = ap f (one-mul (2 ^ k)) ∙ e ∙ sym (ap g (one-mul (2 ^ k)))
  one_bit (suc (suc h)) k l e = absurd (omega arith)

  pub additive_same : (k : ℕ) → ((n : ℕ) → n < k → f (2 ^ n) ≡ g (2 ^ n)) → (r : ℕ) → r < 2 ^ k → f r ≡ g r
  additive_same zero e r l = ap f (lt-one l) ∙ nothing ∙ sym (ap g (lt-one l))
  additive_same (suc k) e r l =
      let parted : r ≡ r / 2 ^ k * 2 ^ k ⊕ r % 2 ^ k = sym (xor_shifted (r / 2 ^ k) k (r % 2 ^ k) (mod-lt r (pow_pos k)) ∙ split r k) in
      ap f parted ∙ f_add (r / 2 ^ k * 2 ^ k) (r % 2 ^ k)
      ∙ ap₂ ◌⊕◌
      (one_bit (r / 2 ^ k) k (shr_lt 1 k (subst (λ (n : ℕ). r < 2 ^ n) (sym (one-add k)) l)) (e k (le_refl (suc k))))
      (additive_same k (λ n m. e n (le_trans m (le-suc k))) (r % 2 ^ k) (mod-lt r (pow_pos k)))
      ∙ sym (ap g parted ∙ g_add (r / 2 ^ k * 2 ^ k) (r % 2 ^ k))
