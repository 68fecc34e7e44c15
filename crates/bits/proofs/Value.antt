-- Laws of the bits of a list of bytes, by place: a run of bits is split anywhere, a byte is its eight bits, four bytes are 32. Assumes nothing.
use mathlib.Core.Path.{◌≡◌, refl, sym, ap, ◌∙◌}
use mathlib.Core.Logic.{◌⊎◌, inl, inr}
use mathlib.Core.List.{List, [], ◌∷◌, ◌++◌}
use Prim.Native.Nat.{ℕ, zero, suc, ◌+◌, ◌-◌, ◌*◌, ◌/◌, ◌%◌, ◌^◌, ◌<◌, ◌≤◌}
use native.Mathlib.Nat.{add-zero, zero-add, add-suc, add_assoc, mul_assoc, mul-one, pow-suc, mod-lt, div-add-mod', div-one, div-eq_of_lt, div-div-eq-div-mul}
use native.Mathlib.Omega.{arith}
use lib.Dec.{lit<, lit≤}
use lib.Pow.{high, low, field, shl-shr, shr-shr}
use lib.ListN.{length, get_or, drop}
use Rattle.laws.proofs.Rows.{lt-or-ge}
use Rattle.bits.specs.Bits.{Bit, bit_of, num, bits_of, bit_num, bit_at, value, bits_from, bits_left}

pub bit_num-lt : (s : List ℕ) (i : ℕ) → bit_num s i < 2
unfolding bit_num
bit_num-lt s i = mod-lt _ (lit< tt)

pub num-bit_of : (n : ℕ) → n < 2 → num (bit_of n) ≡ n
num-bit_of zero h = refl
num-bit_of (suc zero) h = refl
num-bit_of (suc (suc n)) h = absurd (omega arith)

pub num_bit : (s : List ℕ) (i : ℕ) → num (bit_at s i) ≡ bit_num s i
unfolding bit_at
num_bit s i = num-bit_of (bit_num s i) (bit_num-lt s i)

-- ---- numbers
pub value-lt : (s : List ℕ) (a k : ℕ) → value s a k < 2 ^ k
unfolding value
value-lt s a zero = lit< tt
value-lt s a (suc k) = omega (arith, pow-suc 2 k, value-lt s a k, bit_num-lt s (a + k))

pub value-add : (s : List ℕ) (a k m : ℕ) → value s a (k + m) ≡ value s a k * 2 ^ m + value s (a + k) m
unfolding value
value-add s a k zero = omega (arith, ap (value s a) (add-zero k), mul-one (value s a k))
value-add s a k (suc m) =
    rw (add-suc k m)
    (omega (arith, value-add s a k m, ap (bit_num s) (add_assoc a k m), ap (λ (x : ℕ). value s a k * x) (pow-suc 2 m), mul_assoc (value s a k) (2 ^ m) 2))

pub value_one : (s : List ℕ) (a : ℕ) → value s a 1 ≡ bit_num s a
unfolding value
value_one s a = zero-add (bit_num s (a + 0)) ∙ ap (bit_num s) (add-zero a)

-- the first k bits of a longer run
pub value_first : (s : List ℕ) (a k t : ℕ) → value s a (k + t) / 2 ^ t ≡ value s a k
value_first s a k t = rw (value-add s a k t) (high (value s a k) t (value-lt s (a + k) t))

-- k bits within a longer run: r before them, t after them
pub value_within : (s : List ℕ) (a r k t : ℕ) → value s a (r + k + t) / 2 ^ t % 2 ^ k ≡ value s (a + r) k
value_within s a r k t = rw (value_first s a (r + k) t, value-add s a r k) (low (value s a r) k (value-lt s (a + r) k))

-- ---- bytes
bit_of_lem : (s : List ℕ) (a j r : ℕ) → a ≡ j * 8 → r < 8 → bit_num s (a + r) ≡ get_or s j 0 / 2 ^ (7 - r) % 2
unfolding bit_num
bit_of_lem s a j r e h =
    let d : (a + r) / 8 ≡ j = omega arith in
    let m : (a + r) % 8 ≡ r = omega arith in
    rw (d, m)

halves : (x m : ℕ) → x / 2 ^ suc m * 2 + x / 2 ^ m % 2 ≡ x / 2 ^ m
halves x m = let e : x / 2 ^ suc m ≡ x / 2 ^ m / 2 = ap (λ (n : ℕ). x / n) (pow-suc 2 m) ∙ sym (div-div-eq-div-mul x (2 ^ m) 2) in omega arith

-- the first k bits of a byte are its quotient by the rest
pub byte_part : (s : List ℕ) (a j : ℕ) → a ≡ j * 8 → get_or s j 0 < 256 → (k : ℕ) → k ≤ 8 → value s a k ≡ get_or s j 0 / 2 ^ (8 - k)
unfolding value
byte_part s a j e h zero l = sym (div-eq_of_lt h)
byte_part s a j e h (suc k) l =
    let m : 8 - k ≡ suc (7 - k) = omega arith in
    let n : 8 - suc k ≡ 7 - k = omega arith in
    let v : value s a k ≡ get_or s j 0 / 2 ^ suc (7 - k) = rw m at (byte_part s a j e h k (omega arith)) in
    rw (n, v, bit_of_lem s a j k e (omega arith)) (halves (get_or s j 0) (7 - k))

byte_value : (s : List ℕ) (a j : ℕ) → a ≡ j * 8 → get_or s j 0 < 256 → value s a 8 ≡ get_or s j 0
byte_value s a j e h = byte_part s a j e h 8 (lit≤ tt) ∙ div-one (get_or s j 0)

pub four_bytes : (s : List ℕ) (j b0 b1 b2 b3 : ℕ) → b0 ≡ get_or s j 0 → b1 ≡ get_or s (j + 1) 0 → b2 ≡ get_or s (j + 2) 0 → b3 ≡ get_or s (j + 3) 0
    → b0 < 256 → b1 < 256 → b2 < 256 → b3 < 256
    → b0 * 16777216 + b1 * 65536 + b2 * 256 + b3 ≡ value s (j * 8) 32
four_bytes s j b0 b1 b2 b3 e0 e1 e2 e3 h0 h1 h2 h3 =
    let a = j * 8 in
    let v0 : value s a 32 ≡ value s a 8 * 16777216 + value s (a + 8) 24 = value-add s a 8 24 in
    let v1 : value s (a + 8) 24 ≡ value s (a + 8) 8 * 65536 + value s (a + 8 + 8) 16 = value-add s (a + 8) 8 16 in
    let v2 : value s (a + 8 + 8) 16 ≡ value s (a + 8 + 8) 8 * 256 + value s (a + 8 + 8 + 8) 8 = value-add s (a + 8 + 8) 8 8 in
    let b0 = byte_value s a j refl (rw e0 at h0) in
    let b1 = byte_value s (a + 8) (j + 1) (omega arith) (rw e1 at h1) in
    let b2 = byte_value s (a + 8 + 8) (j + 2) (omega arith) (rw e2 at h2) in
    let b3 = byte_value s (a + 8 + 8 + 8) (j + 3) (omega arith) (rw e3 at h3) in
    omega arith

-- 24 bits from any place lie in four bytes: those before the place are shifted out, then those after the 24
pub window_is : (s : List ℕ) (at : ℕ) → (value s (at / 8 * 8) 32 * 2 ^ (at % 8)) % 2 ^ 32 / 2 ^ 8 ≡ value s at 24
window_is s at = shifted (value s (at / 8 * 8) 32) (at % 8) (omega arith) ∙ within
  where
    shifted : (w r : ℕ) → r ≤ 8 → (w * 2 ^ r) % 2 ^ 32 / 2 ^ 8 ≡ w / 2 ^ (8 - r) % 2 ^ 24
    shifted w r l =
        let e : 8 ≡ r + (8 - r) = omega arith in
        field (w * 2 ^ r) 24 8
        ∙ ap (λ (x : ℕ). x % 2 ^ 24)
        (ap (λ (k : ℕ). w * 2 ^ r / 2 ^ k) e ∙ sym (shr-shr (w * 2 ^ r) r (8 - r)) ∙ ap (λ (x : ℕ). x / 2 ^ (8 - r)) (shl-shr w r))

    within : value s (at / 8 * 8) 32 / 2 ^ (8 - at % 8) % 2 ^ 24 ≡ value s at 24
    within =
        let t : 32 ≡ at % 8 + 24 + (8 - at % 8) = omega arith in
        let p : at / 8 * 8 + at % 8 ≡ at = div-add-mod' at 8 in
        ap (λ (x : ℕ). value s (at / 8 * 8) x / 2 ^ (8 - at % 8) % 2 ^ 24) t
        ∙ value_within s (at / 8 * 8) (at % 8) 24 (8 - at % 8) ∙ ap (λ (x : ℕ). value s x 24) p

-- the first k bits of a window
pub window_first : (s : List ℕ) (at w k : ℕ) → w ≡ value s at 24 → k ≤ 24 → w / 2 ^ (24 - k) ≡ value s at k
window_first s at w k e h =
    let t : 24 ≡ k + (24 - k) = omega arith in ap (λ (x : ℕ). x / 2 ^ (24 - k)) (e ∙ ap (value s at) t) ∙ value_first s at k (24 - k)

-- ---- lists of bits
pub length_bits : (s : List ℕ) (a k : ℕ) → length (bits_from s a k) ≡ k
unfolding bits_from
length_bits s a zero = refl
length_bits s a (suc k) = ap suc (length_bits s (a + 1) k)

-- the bits that are left: none at the end, else the bit at the place and those from the next place
pub left_none : (s : List ℕ) (n a : ℕ) → n ≤ a → bits_left s n a ≡ []
unfolding bits_from
left_none s n a h = let z : n - a ≡ 0 = omega arith in rw z

pub left_more : (s : List ℕ) (n a : ℕ) → a < n → bits_left s n a ≡ bit_at s a ∷ bits_left s n (a + 1)
unfolding bits_from
left_more s n a h = let z : n - a ≡ suc (n - (a + 1)) = omega arith in rw z

-- a run, split
pub bits_split : (s : List ℕ) (a k m : ℕ) → bits_from s a (k + m) ≡ bits_from s a k ++ bits_from s (a + k) m
unfolding bits_from
bits_split s a zero m =
    let e : 0 + m ≡ m = omega arith in
    let f : a ≡ a + 0 = omega arith in
    λ i. bits_from s (f i) (e i)
bits_split s a (suc k) m =
    let e : suc k + m ≡ suc (k + m) = omega arith in
    let f : a + 1 + k ≡ a + suc k = omega arith in
    ap (bits_from s a) e ∙ ap (λ (l : List Bit). bit_at s a ∷ l) (bits_split s (a + 1) k m ∙ ap (λ (j : ℕ). bits_from s (a + 1) k ++ bits_from s j m) f)

-- the last k bits of a byte are its own
pub byte_bits : (s : List ℕ) (i a k : ℕ) → k ≤ 8 → a + k ≡ i * 8 + 8 → bits_from s a k ≡ bits_of k (get_or s i 0)
unfolding bits_from bit_at bit_num
byte_bits s i a zero l e = refl
byte_bits s i a (suc k) l e =
    let d : a / 8 ≡ i = omega arith in
    let m : 7 - a % 8 ≡ k = omega arith in
    rw (d, m, byte_bits s i (a + 1) k (omega arith) (omega arith))

-- what is left once some have gone
pub left_drop : (s : List ℕ) (n a k : ℕ) → drop k (bits_left s n a) ≡ bits_left s n (a + k)
left_drop s n a zero = let e : a ≡ a + 0 = omega arith in ap (bits_left s n) e
left_drop s n a (suc k) = go (lt-or-ge a n) (left_drop s n (a + 1) k)
  where
    go : (a < n) ⊎ (n ≤ a) → drop k (bits_left s n (a + 1)) ≡ bits_left s n (a + 1 + k) → drop (suc k) (bits_left s n a) ≡ bits_left s n (a + suc k)
    go (inl l) more = let e : a + 1 + k ≡ a + suc k = omega arith in ap (drop (suc k)) (left_more s n a l) ∙ more ∙ ap (bits_left s n) e
    go (inr l) more = ap (drop (suc k)) (left_none s n a l) ∙ sym (left_none s n (a + suc k) (omega arith))
