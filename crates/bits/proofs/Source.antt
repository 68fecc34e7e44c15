-- The bits of a slice, by bytes and by place: the same. Assumes nothing.
use mathlib.Core.Path.{◌≡◌, refl, ◌∙◌}
use mathlib.Core.List.{List, [], ◌∷◌, ◌++◌}
use Prim.Native.Nat.{ℕ, zero, suc, ◌+◌, ◌-◌, ◌*◌, ◌/◌, ◌%◌, ◌≤◌}
use native.Mathlib.Omega.{arith}
use native.Mathlib.Nat.{sub-zero}
use lib.ListN.{length, take}
use Rattle.bits.specs.Bits.{bits_of, bits_in, source, bit_num, bit_at, bits_from, bits_left}
use Rattle.bits.proofs.Value.{length_bits}

bit_later : (b : ℕ) (s : List ℕ) (i : ℕ) → bit_at (b ∷ s) (i + 8) ≡ bit_at s i
unfolding bit_at bit_num
bit_later b s i =
    let d : (i + 8) / 8 ≡ suc (i / 8) = omega arith in
    let m : (i + 8) % 8 ≡ i % 8 = omega arith in
    rw (d, m)

pub bits_later : (b : ℕ) (s : List ℕ) (i k : ℕ) → bits_from (b ∷ s) (i + 8) k ≡ bits_from s i k
unfolding bits_from
bits_later b s i zero = refl
bits_later b s i (suc k) =
    let e : i + 8 + 1 ≡ i + 1 + 8 = omega arith in
    rw (bit_later b s i, e, bits_later b s (i + 1) k)

first : (b : ℕ) (s : List ℕ) (k : ℕ) → bits_from (b ∷ s) 0 (suc (suc (suc (suc (suc (suc (suc (suc k)))))))) ≡ bits_of 8 b ++ bits_from (b ∷ s) 8 k
unfolding bits_from bit_at bit_num
first b s k = refl

-- the first byte's bits, then those of the others
pub bits_byte : (b : ℕ) (s : List ℕ) (k : ℕ) → bits_from (b ∷ s) 0 (8 + k) ≡ bits_of 8 b ++ bits_from s 0 k
bits_byte b s k =
    let e : 8 + k ≡ suc (suc (suc (suc (suc (suc (suc (suc k))))))) = omega arith in
    rw (e, first b s k, bits_later b s 0 k)

all_bits_lem : (s : List ℕ) → bits_in s ≡ bits_from s 0 (length s * 8)
unfolding bits_in bits_from
all_bits_lem [] = refl
all_bits_lem (b ∷ s) =
    let e : suc (length s) * 8 ≡ 8 + length s * 8 = omega arith in
    rw (e, bits_byte b s (length s * 8), all_bits_lem s)

pub take_from : (s : List ℕ) (a k m : ℕ) → take k (bits_from s a (k + m)) ≡ bits_from s a k
unfolding bits_from
take_from s a zero m = refl
take_from s a (suc k) m =
    let e : suc k + m ≡ suc (k + m) = omega arith in
    rw (e, take_from s (a + 1) k m)

pub source_left : (s : List ℕ) (n : ℕ) → n ≤ 8 * length s → source s n ≡ bits_left s n 0
source_left s n h =
    let e : length s * 8 ≡ n + (length s * 8 - n) = omega arith in
    let z : n - 0 ≡ n = omega arith in
    rw (all_bits_lem s, e, z) (take_from s 0 n (length s * 8 - n))

pub length-source : (s : List ℕ) (n : ℕ) → n ≤ 8 * length s → length (source s n) ≡ n
length-source s n h = rw (source_left s n h) (length_bits s 0 (n - 0) ∙ sub-zero n)
