-- Laws of a field: what it gives at a place of a slice, where it ends, and that what was written is read back. Assumes nothing.
use mathlib.Core.Path.{◌≡◌, refl, sym, ap, ◌∙◌}
use mathlib.Core.List.{List, [], ◌∷◌, ◌++◌}
use Prim.Native.Nat.{ℕ, zero, suc, ◌+◌, ◌-◌, ◌*◌, ◌/◌, ◌%◌, ◌^◌, ◌≤◌, ◌<◌}
use native.Mathlib.Nat.{mod-lt, mod-one, mod-eq_of_lt, add-zero, mul_assoc, mul_comm, add-mul, pow-suc, lt_of_lt_of_le}
use native.Mathlib.Omega.{arith}
use borrow.Author.Tests.{leb-true, leb-false}
use mathlib.Core.Bool.{Bool, true, false}
use lib.Dec.{lit<, leb}
use lib.Pow.{mod-pow-add}
use lib.ListN.{length}
use Rattle.refusals.specs.declared.Reason.TheVariants.{BitsEnd}
use Rattle.bits.specs.Bits.{Bit, bit0, bit1, bit_of, num, bits_of, bit_at, value, bits_from, bits_left}
use Rattle.bits.specs.Places.{plain}
use Rattle.bits.specs.Read.{got, bad, field, field_from}
use Rattle.bits.proofs.Value.{num-bit_of, num_bit, value-lt, value-add, value_one, length_bits}

-- a field of k bits takes k bits, and its number is below 2 ^ k
pub record Taken (k : ℕ) (bs : List Bit) (at v : ℕ) (cs : List Bit) (p : ℕ) : Type 0 where
  pub left : k + length cs ≡ length bs
  pub next : p ≡ at + k
  pub small : v < 2 ^ k

twice : (b : Bit) (v k : ℕ) → (v * 2 + num b + 1) * 2 ^ k ≤ (v + 1) * 2 ^ suc k
twice bit0 v k = omega (arith, pow-suc 2 k, add-mul (v * 2) 1 (2 ^ k), add-mul v 1 (2 ^ suc k), ap (λ (x : ℕ). v * x) (pow-suc 2 k), mul_assoc v 2 (2 ^ k), ap (λ (x : ℕ). v * x) (mul_comm (2 ^ k) 2), add-zero (v * 2))
twice bit1 v k = omega (arith, pow-suc 2 k, add-mul (v * 2 + 1) 1 (2 ^ k), add-mul (v * 2) 1 (2 ^ k), add-mul v 1 (2 ^ suc k), ap (λ (x : ℕ). v * x) (pow-suc 2 k), mul_assoc v 2 (2 ^ k), ap (λ (x : ℕ). v * x) (mul_comm (2 ^ k) 2))

takes : (k at v : ℕ) (bs : List Bit) (p w : ℕ) (cs : List Bit) (q : ℕ) → field_from {P = plain} k at v bs p ≡ got w cs q
    → (k + length cs ≡ length bs) × (q ≡ p + k) × (w < (v + 1) * 2 ^ k)
unfolding field_from
takes zero at v bs p w cs q e =
    let h : bs ≡ cs = cc in
    let i : p ≡ q = cc in
    let j : v ≡ w = cc in
    (rw h (omega arith), omega arith, omega arith)
takes (suc k) at v [] p w cs q e = let z : ◌≡◌ {A = ℕ} 0 1 = cc in absurd (omega arith)
takes (suc k) at v (b ∷ bs) p w cs q e =
    let h = takes k at (v * 2 + num b) bs (p + 1) w cs q e in
    (omega (arith, h.0), omega (arith, h.1), lt_of_lt_of_le h.2 (twice b v k))

-- ---- at a place of a slice: the field's number, the bits left, the next place
-- what was read so far, v, moves up
shift : (v b x y k : ℕ) → y ≡ b * 2 ^ k + x → (v * 2 + b) * 2 ^ k + x ≡ v * 2 ^ suc k + y
shift v b x y k e =
    let p = pow-suc 2 k in
    let m = add-mul (v * 2) b (2 ^ k) in
    let a = ap (λ (z : ℕ). v * z) p in
    let c = mul_assoc v 2 (2 ^ k) in
    let d = ap (λ (z : ℕ). v * z) (mul_comm (2 ^ k) 2) in
    omega arith

-- a number's first bit, and the others
first_bit : (s : List ℕ) (a k : ℕ) → value s a (suc k) ≡ num (bit_at s a) * 2 ^ k + value s (a + 1) k
first_bit s a k =
    let e : suc k ≡ 1 + k = omega arith in
    ap (value s a) e ∙ value-add s a 1 k ∙ ap (λ (x : ℕ). x * 2 ^ k + value s (a + 1) k) (value_one s a ∙ sym (num_bit s a))

field-value : (k at v : ℕ) (s : List ℕ) (p m : ℕ) → field_from {P = plain} k at v (bits_from s p (k + m)) p ≡ got (v * 2 ^ k + value s p k) (bits_from s (p + k) m) (p + k)
unfolding field_from bits_from value
field-value zero at v s p m =
    let z : 0 + m ≡ m = omega arith in
    let y : p + 0 ≡ p = omega arith in
    let x : v * 2 ^ 0 + 0 ≡ v = omega arith in
    rw (z, y, x)
field-value (suc k) at v s p m =
    let a : suc k + m ≡ suc (k + m) = omega arith in
    let b : p + suc k ≡ p + 1 + k = omega arith in
    let e = shift v (num (bit_at s p)) (value s (p + 1) k) (value s p (suc k)) k (first_bit s p k) in
    let h = field-value k at (v * 2 + num (bit_at s p)) s (p + 1) m in
    rw (a, b) (h ∙ ap (λ (x : ℕ). got x (bits_from s (p + 1 + k) m) (p + 1 + k)) e)

pub field_at : (s : List ℕ) (n at k : ℕ) → k ≤ n - at → field {P = plain} k (bits_left s n at) at ≡ got (value s at k) (bits_left s n (at + k)) (at + k)
field_at s n at k h =
    let e : n - at ≡ k + (n - (at + k)) = omega arith in
    let z : 0 * 2 ^ k + value s at k ≡ value s at k = omega arith in
    rw e (field-value k at 0 s at (n - (at + k)) ∙ ap (λ (x : ℕ). got x (bits_from s (at + k) (n - (at + k))) (at + k)) z)

short : (k at v : ℕ) (bs : List Bit) (p : ℕ) → length bs < k → field_from k at v bs p ≡ bad BitsEnd at
unfolding field_from
short zero at v bs p h = absurd (omega arith)
short (suc k) at v [] p h = refl
short (suc k) at v (b ∷ bs) p h = short k at (v * 2 + num b) bs (p + 1) (omega arith)

pub field-short : (s : List ℕ) (n at k : ℕ) → n - at < k → field k (bits_left s n at) at ≡ bad BitsEnd at
field-short s n at k h = short k at 0 (bits_left s n at) at (rw (length_bits s at (n - at)) h)

-- ---- where a field that was read ended
pub record FieldGot (s : List ℕ) (n at k v p : ℕ) : Type 0 where
  pub is : v ≡ value s at k
  pub small : v < 2 ^ k
  pub next : p ≡ at + k
  pub in_source : p ≤ n

pub field-got : (s : List ℕ) (n at k v p : ℕ) (cs : List Bit) → at ≤ n → field {P = plain} k (bits_left s n at) at ≡ got v cs p → FieldGot s n at k v p
field-got s n at k v p cs h e = go (leb k (n - at)) refl
  where
    go : (t : Bool) → leb k (n - at) ≡ t → FieldGot s n at k v p
    go true t =
        let l : k ≤ n - at = leb-true k (n - at) t in
        let f = field_at s n at k l in
        let i : v ≡ value s at k = cc in
        let q : p ≡ at + k = cc in
        record { is = i; small = rw i (value-lt s at k); next = q; in_source = omega arith }
    go false t =
        let f = field-short s n at k (leb-false k (n - at) t) in
        let z : ◌≡◌ {A = ℕ} 0 1 = cc in
        absurd (omega arith)

-- ---- read back
pub length-bits_of : (k x : ℕ) → length (bits_of k x) ≡ k
length-bits_of zero x = refl
length-bits_of (suc k) x = ap suc (length-bits_of k x)

back : (k at v x : ℕ) (rest : List Bit) (p : ℕ) → field_from {P = plain} k at v (bits_of k x ++ rest) p ≡ got (v * 2 ^ k + x % 2 ^ k) rest (p + k)
unfolding field_from
back zero at v x rest p =
    let y : p + 0 ≡ p = omega arith in
    let z : v * 2 ^ 0 + x % 2 ^ 0 ≡ v = omega (arith, mod-one x) in
    rw (y, z)
back (suc k) at v x rest p =
    let b = num (bit_of (x / 2 ^ k % 2)) in
    let q : p + suc k ≡ p + 1 + k = omega arith in
    let o : 1 + k ≡ suc k = omega arith in
    let n : b ≡ x / 2 ^ k % 2 = num-bit_of (x / 2 ^ k % 2) (mod-lt (x / 2 ^ k) (lit< tt)) in
    let m : x % 2 ^ suc k ≡ b * 2 ^ k + x % 2 ^ k = ap (λ (i : ℕ). x % 2 ^ i) (sym o) ∙ mod-pow-add x 1 k ∙ ap (λ (i : ℕ). i * 2 ^ k + x % 2 ^ k) (sym n) in
    let e = shift v b (x % 2 ^ k) (x % 2 ^ suc k) k m in
    rw q (back k at (v * 2 + b) x rest (p + 1) ∙ ap (λ (i : ℕ). got i rest (p + 1 + k)) e)

-- what was written in k bits is read, whatever follows
pub field_back : (k v : ℕ) (rest : List Bit) (at : ℕ) → v < 2 ^ k → field {P = plain} k (bits_of k v ++ rest) at ≡ got v rest (at + k)
field_back k v rest at h =
    let z : 0 * 2 ^ k + v % 2 ^ k ≡ v = omega (arith, mod-eq_of_lt h) in
    back k at 0 v rest at ∙ ap (λ (i : ℕ). got i rest (at + k)) z
