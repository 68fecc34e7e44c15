-- The last one of a number's bits, and the one before it, by the zeros after them. Assumes nothing.
use mathlib.Core.Path.{◌≡◌, refl, sym, ap, ◌∙◌}
use mathlib.Core.Bool.{Bool}
use mathlib.Core.List.{List, [], ◌∷◌, ◌++◌, map, map-append}
use Prim.Native.Nat.{ℕ, zero, suc, ◌+◌, ◌-◌, ◌*◌, ◌/◌, ◌%◌, ◌^◌, ◌<◌, ◌≤◌}
use native.Mathlib.Nat.{mod-lt, pow-suc}
use native.Mathlib.Omega.{arith}
use lib.Count.{count_trailing_zeros, under}
use lib.Dec.{lit<, lit≤}
use lib.ListN.{length, length-map}
use lib.Pow.{shr_lt, shr-shr}
use Rattle.laws.specs.Choice.{pick}
use Rattle.bits.specs.Bits.{bit_of, bits_of}
use Rattle.bits.proofs.Numbers.{bits_of-append}
use Rattle.bits.proofs.Fields.{length-bits_of}
use Rattle.stream.specs.Stream.{is_one}
use Rattle.stream.specs.Bytes.{bits_of_number, last_after, before_after, FewBits}

-- ---- one bit more
last_snoc : (c l : ℕ) (bits : List Bool) (b : Bool) → last_after c l (bits ++ (b ∷ [])) ≡ pick b (c + length bits + 1) (last_after c l bits)
last_snoc c l [] b = let e : c + 1 ≡ c + 0 + 1 = omega arith in ap (λ (n : ℕ). pick b n l) e
last_snoc c l (x ∷ bits) b =
    let e : c + 1 + length bits + 1 ≡ c + suc (length bits) + 1 = omega arith in
    last_snoc (c + 1) (pick x (c + 1) l) bits b ∙ ap (λ (n : ℕ). pick b n (last_after (c + 1) (pick x (c + 1) l) bits)) e

before_snoc : (c l e : ℕ) (bits : List Bool) (b : Bool) → before_after c l e (bits ++ (b ∷ [])) ≡ pick b (last_after c l bits) (before_after c l e bits)
before_snoc c l e [] b = refl
before_snoc c l e (x ∷ bits) b = before_snoc (c + 1) (pick x (c + 1) l) (pick x l e) bits b

-- a number's last bit is its lowest
halved : (k n : ℕ) → bits_of (suc k) n ≡ bits_of k (n / 2) ++ (bit_of (n % 2) ∷ [])
halved k n =
    let w : k + 1 ≡ suc k = omega arith in
    let same : n / 2 * 2 + n % 2 ≡ n = omega arith in
    let low : n % 2 / 1 % 2 ≡ n % 2 = omega arith in
    sym (ap (λ (x : ℕ). bits_of k (n / 2) ++ (bit_of x ∷ [])) (sym low) ∙ bits_of-append k 1 (n / 2) (n % 2) (mod-lt n (lit< tt)) ∙ (λ i. bits_of (w i) (same i)))

number_halved : (k n : ℕ) → bits_of_number (suc k) n ≡ bits_of_number k (n / 2) ++ (is_one (bit_of (n % 2)) ∷ [])
number_halved k n = ap (map is_one) (halved k n) ∙ map-append is_one (bits_of k (n / 2)) (bit_of (n % 2) ∷ [])

long : (k n : ℕ) → length (bits_of_number k n) ≡ k
long k n = length-map (bits_of k n) is_one ∙ length-bits_of k n

last_halved : (c l k n : ℕ) → last_after c l (bits_of_number (suc k) n) ≡ pick (is_one (bit_of (n % 2))) (c + k + 1) (last_after c l (bits_of_number k (n / 2)))
last_halved c l k n =
    ap (last_after c l) (number_halved k n) ∙ last_snoc c l (bits_of_number k (n / 2)) (is_one (bit_of (n % 2)))
    ∙ ap (λ (m : ℕ). pick (is_one (bit_of (n % 2))) (c + m + 1) (last_after c l (bits_of_number k (n / 2)))) (long k (n / 2))

before_halved : (c l e k n : ℕ) → before_after c l e (bits_of_number (suc k) n) ≡ pick (is_one (bit_of (n % 2))) (last_after c l (bits_of_number k (n / 2))) (before_after c l e (bits_of_number k (n / 2)))
before_halved c l e k n = ap (before_after c l e) (number_halved k n) ∙ before_snoc c l e (bits_of_number k (n / 2)) (is_one (bit_of (n % 2)))

-- ---- zeros alone
pub last_none : (c l k : ℕ) → last_after c l (bits_of_number k 0) ≡ l
last_none c l zero = refl
last_none c l (suc k) = last_halved c l k 0 ∙ last_none c l k

pub before_none : (c l e k : ℕ) → before_after c l e (bits_of_number k 0) ≡ e
before_none c l e zero = refl
before_none c l e (suc k) = before_halved c l e k 0 ∙ before_none c l e k

-- ---- a one and t zeros after it
pub trailing_less : (k j n : ℕ) → k ≤ j → 0 < n → n < 2 ^ k → count_trailing_zeros j n < k
unfolding count_trailing_zeros
trailing_less zero j n l some small = absurd (omega (arith, some, small))
trailing_less (suc k) zero n l some small = absurd (omega (arith, l))
trailing_less (suc k) (suc j) n l some small = go (n % 2) refl (trailing_less k j (n / 2) (omega (arith, l)))
  where
    go : (d : ℕ) → n % 2 ≡ d → (0 < n / 2 → n / 2 < 2 ^ k → count_trailing_zeros j (n / 2) < k) → under d (count_trailing_zeros j (n / 2)) < suc k
    go zero e on = let h = on (omega (arith, some, e)) (omega (arith, small, pow-suc 2 k)) in omega (arith, h)
    go (suc d) e on = omega arith

pub last_some : (c l k j n : ℕ) → k ≤ j → 0 < n → n < 2 ^ k → last_after c l (bits_of_number k n) ≡ c + k - count_trailing_zeros j n
unfolding count_trailing_zeros
last_some c l zero j n le some small = absurd (omega (arith, some, small))
last_some c l (suc k) zero n le some small = absurd (omega (arith, le))
last_some c l (suc k) (suc j) n le some small = last_halved c l k n ∙ go (n % 2) refl (last_some c l k j (n / 2) (omega (arith, le)))
  where
    go : (d : ℕ) → n % 2 ≡ d → (0 < n / 2 → n / 2 < 2 ^ k → last_after c l (bits_of_number k (n / 2)) ≡ c + k - count_trailing_zeros j (n / 2))
        → pick (is_one (bit_of d)) (c + k + 1) (last_after c l (bits_of_number k (n / 2))) ≡ c + suc k - under d (count_trailing_zeros j (n / 2))
    go zero e on =
        let up : n / 2 < 2 ^ k = omega (arith, small, pow-suc 2 k) in
        let half : 0 < n / 2 = omega (arith, some, e) in
        let less : k ≤ j = omega (arith, le) in
        let t = trailing_less k j (n / 2) less half up in
        on half up ∙ omega (arith, t)
    go (suc d) e on = omega arith

pub before_some : (c l e k j n : ℕ) → k ≤ j → 0 < n → n < 2 ^ k
    → before_after c l e (bits_of_number k n) ≡ last_after c l (bits_of_number (k - 1 - count_trailing_zeros j n) (n / 2 ^ (count_trailing_zeros j n + 1)))
unfolding count_trailing_zeros
before_some c l e zero j n le some small = absurd (omega (arith, some, small))
before_some c l e (suc k) zero n le some small = absurd (omega (arith, le))
before_some c l e (suc k) (suc j) n le some small = before_halved c l e k n ∙ go (n % 2) refl (before_some c l e k j (n / 2) (omega (arith, le)))
  where
    go : (d : ℕ) → n % 2 ≡ d
        → (0 < n / 2 → n / 2 < 2 ^ k → before_after c l e (bits_of_number k (n / 2)) ≡ last_after c l (bits_of_number (k - 1 - count_trailing_zeros j (n / 2)) (n / 2 / 2 ^ (count_trailing_zeros j (n / 2) + 1))))
        → pick (is_one (bit_of d)) (last_after c l (bits_of_number k (n / 2))) (before_after c l e (bits_of_number k (n / 2)))
        ≡ last_after c l (bits_of_number (suc k - 1 - under d (count_trailing_zeros j (n / 2))) (n / 2 ^ (under d (count_trailing_zeros j (n / 2)) + 1)))
    go zero z on =
        let up : n / 2 < 2 ^ k = omega (arith, small, pow-suc 2 k) in
        let half : 0 < n / 2 = omega (arith, some, z) in
        let t = count_trailing_zeros j (n / 2) in
        let width : k - 1 - t ≡ suc k - 1 - suc t = omega arith in
        let power : 1 + (t + 1) ≡ suc t + 1 = omega arith in
        on half up ∙ (λ i. last_after c l (bits_of_number (width i) ((shr-shr n 1 (t + 1) ∙ ap (λ (m : ℕ). n / 2 ^ m) power) i)))
    go (suc d) z on = let width : k ≡ suc k - 1 - 0 = omega arith in ap (λ (m : ℕ). last_after c l (bits_of_number m (n / 2))) width

-- ---- as the code has it
some_of : (n : ℕ) → (n ≡ 0 → ⊥) → 0 < n
some_of zero h = absurd (h refl)
some_of (suc n) h = omega arith

module _ {width n place : ℕ} (f : FewBits width n place) (h : n ≡ 0 → ⊥) where
  in_width : width ≤ 32
  in_width = omega (arith, f.short)

  pub few_less : count_trailing_zeros 32 n < 8
  few_less = let l = trailing_less width 32 n in_width (some_of n h) f.small in omega (arith, l, f.short)

  pub few_within : count_trailing_zeros 32 n ≤ place + width
  few_within = let l = trailing_less width 32 n in_width (some_of n h) f.small in omega (arith, l)

  pub few_last : (l : ℕ) → place + width - count_trailing_zeros 32 n ≡ last_after place l (bits_of_number width n)
  few_last l = sym (last_some place l width 32 n in_width (some_of n h) f.small)

module _ {byte place : ℕ} (small : byte < 256) (low : place < 9223372036854775808) (h : byte ≡ 0 → ⊥) where
  whole : FewBits 8 byte place
  whole = record { short = lit≤ tt; small = small; low = low }

  pub byte_less : count_trailing_zeros 32 byte < 8
  byte_less = few_less whole h

  pub byte_above : FewBits (7 - count_trailing_zeros 32 byte) (byte / 2 ^ (count_trailing_zeros 32 byte + 1)) place
  byte_above =
      let t = count_trailing_zeros 32 byte in
      let l : t < 8 = byte_less in
      let e : 7 - t + (t + 1) ≡ 8 = omega (arith, l) in
      record { short = omega arith; small = shr_lt (7 - t) (t + 1) (rw e small); low = low }

  pub byte_before : (l e : ℕ) → last_after place l (bits_of_number (7 - count_trailing_zeros 32 byte) (byte / 2 ^ (count_trailing_zeros 32 byte + 1))) ≡ before_after place l e (bits_of_number 8 byte)
  byte_before l e = sym (before_some place l e 8 32 byte (lit≤ tt) (some_of byte h) small)
