-- Numbers and the bits that they are written in. Assumes nothing.
use mathlib.Core.Path.{◌≡◌, refl, sym, ap, ◌∙◌}
use mathlib.Core.List.{List, ◌++◌}
use Prim.Native.Nat.{ℕ, zero, suc, ◌+◌, ◌*◌, ◌/◌, ◌%◌, ◌^◌, ◌<◌}
use native.Mathlib.Nat.{zero-add, suc-add, add_comm, mod-eq_of_lt}
use native.Mathlib.Omega.{arith}
use lib.Dec.{lit<}
use lib.Pow.{high, low, field, mod-mod-pow, shr-shr}
use Rattle.bits.specs.Bits.{Bit, bit0, bit1, num, bits_of, bit_num, bit_at, value, bits_from}
use Rattle.bits.proofs.Value.{bit_num-lt, value-lt, value-add, value_one}

pub num_small : (b : Bit) → num b < 2
num_small bit0 = lit< tt
num_small bit1 = lit< tt

-- only the k low bits count
pub bits_of-mod : (k x y : ℕ) → x % 2 ^ k ≡ y % 2 ^ k → bits_of k x ≡ bits_of k y
bits_of-mod zero x y e = refl
bits_of-mod (suc k) x y e =
    let o : 1 + k ≡ suc k = omega arith in
    let f : x % 2 ^ (1 + k) ≡ y % 2 ^ (1 + k) = rw o e in
    let b : x / 2 ^ k % 2 ≡ y / 2 ^ k % 2 = sym (field x 1 k) ∙ ap (λ (i : ℕ). i / 2 ^ k) f ∙ field y 1 k in
    let r : x % 2 ^ k ≡ y % 2 ^ k = sym (mod-mod-pow x 1 k) ∙ ap (λ (i : ℕ). i % 2 ^ k) f ∙ mod-mod-pow y 1 k in
    rw (b, bits_of-mod k x y r)

-- one number after another
pub bits_of-append : (a b x y : ℕ) → y < 2 ^ b → bits_of a x ++ bits_of b y ≡ bits_of (a + b) (x * 2 ^ b + y)
bits_of-append zero b x y h = rw (zero-add b) (bits_of-mod b y (x * 2 ^ b + y) (mod-eq_of_lt h ∙ sym (low x b h)))
bits_of-append (suc a) b x y h =
    let e : (x * 2 ^ b + y) / 2 ^ (a + b) ≡ x / 2 ^ a =
    ap (λ (i : ℕ). (x * 2 ^ b + y) / 2 ^ i) (add_comm a b) ∙ sym (shr-shr (x * 2 ^ b + y) b a) ∙ ap (λ (i : ℕ). i / 2 ^ a) (high x b h) in
    rw (suc-add a b, e, bits_of-append a b x y h)

-- k bits of a list of bytes are those of their number
pub bits_value : (s : List ℕ) (a k : ℕ) → bits_from s a k ≡ bits_of k (value s a k)
unfolding bits_from bit_at
bits_value s a zero = refl
bits_value s a (suc k) =
    let o : suc k ≡ 1 + k = omega arith in
    let v : value s a (suc k) ≡ bit_num s a * 2 ^ k + value s (a + 1) k =
    ap (value s a) o ∙ value-add s a 1 k ∙ ap (λ (i : ℕ). i * 2 ^ k + value s (a + 1) k) (value_one s a) in
    let h : value s a (suc k) / 2 ^ k % 2 ≡ bit_num s a =
    ap (λ (i : ℕ). i / 2 ^ k % 2) v ∙ ap (λ (i : ℕ). i % 2) (high (bit_num s a) k (value-lt s (a + 1) k)) ∙ mod-eq_of_lt (bit_num-lt s a) in
    let l : value s (a + 1) k % 2 ^ k ≡ value s a (suc k) % 2 ^ k =
    mod-eq_of_lt (value-lt s (a + 1) k) ∙ sym (ap (λ (i : ℕ). i % 2 ^ k) v ∙ low (bit_num s a) k (value-lt s (a + 1) k)) in
    rw (h, bits_value s (a + 1) k, bits_of-mod k (value s (a + 1) k) (value s a (suc k)) l)
