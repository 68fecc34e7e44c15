-- A word that is put by whole bytes: the bits kept of the first byte, the word and the zeros behind it are one number, stored byte by byte.
-- Assumes nothing.
use mathlib.Core.Path.{◌≡◌, refl, sym, ap, ◌∙◌}
use mathlib.Core.List.{List, [], ◌∷◌, ◌++◌, append_assoc}
use Prim.Native.Nat.{ℕ, zero, suc, ◌+◌, ◌-◌, ◌*◌, ◌/◌, ◌%◌, ◌^◌, ◌<◌, ◌≤◌}
use native.Mathlib.Nat.{add-zero, sub-zero, zero-add, mod-lt, mod-eq_of_lt, zero-div, div-add-mod', add-mul, mul-le-mul_right, lt_of_lt_of_le}
use native.Mathlib.Omega.{arith}
use lib.Dec.{lit<}
use lib.Pow.{split, shr_lt, shl_exact, pow_pos, pow_mono, pow-add}
use lib.ListN.{length, get_or, take, drop, set}
use lib.Seq.{sets, sets-eq, get_or-drop, drop-nil}
use Rattle.bits.specs.Bits.{Bit, bit0, num, bits_of, bits_from}
use Rattle.bits.specs.Places.{plain}
use Rattle.bits.specs.Read.{got, field_from}
use Rattle.bits.proofs.Value.{byte_part}
use Rattle.bits.proofs.Source.{bits_byte}
use Rattle.bits.proofs.Numbers.{bits_of-mod, bits_of-append, bits_value}
use Rattle.bits.proofs.Fields.{length-bits_of, field_back}
use Rattle.bits.specs.Write.{byte_from, bytes_of, started_bytes, bytes_with}
use Rattle.bits.specs.Appended.{FieldFits}
use Rattle.bits.proofs.Write.{written_is}

-- the n bytes of a number
abbrev pub bytes_in : ℕ → ℕ → List ℕ
bytes_in zero x = []
bytes_in (suc n) x = x / 2 ^ (n * 8) % 256 ∷ bytes_in n x

length-bytes_in : (n x : ℕ) → length (bytes_in n x) ≡ n
length-bytes_in zero x = refl
length-bytes_in (suc n) x = ap suc (length-bytes_in n x)

-- a byte is a field of eight bits
byte_field : (k at v : ℕ) (bs : List Bit) (p w : ℕ) (cs : List Bit) (q : ℕ) → field_from {P = plain} k at v bs p ≡ got w cs q → byte_from k v bs ≡ w
unfolding field_from byte_from
byte_field zero at v bs p w cs q e = cc
byte_field (suc k) at v [] p w cs q e = let z : ◌≡◌ {A = ℕ} 0 1 = cc in absurd (omega arith)
byte_field (suc k) at v (b ∷ bs) p w cs q e = byte_field k at (v * 2 + num b) bs (p + 1) w cs q e

bytes_none : (l : List Bit) → bytes_of 0 l ≡ []
unfolding bytes_of
bytes_none l = refl

bytes_cons : (n y : ℕ) (l : List Bit) → y < 256 → bytes_of (suc n) (bits_of 8 y ++ l) ≡ y ∷ bytes_of n l
unfolding bytes_of
bytes_cons n y l h = ap (λ (b : ℕ). b ∷ bytes_of n l) (byte_field 8 0 0 (bits_of 8 y ++ l) 0 y l 8 (field_back 8 y l 0 h))

-- the first byte of a number
byte_off : (t x : ℕ) → bits_of (8 + t) x ≡ bits_of 8 (x / 2 ^ t % 256) ++ bits_of t x
byte_off t x =
    let y = x / 2 ^ t in
    let a : bits_of 8 (y % 256) ≡ bits_of 8 y = bits_of-mod 8 (y % 256) y (mod-eq_of_lt (mod-lt y (lit< tt))) in
    let b : bits_of t (x % 2 ^ t) ≡ bits_of t x = bits_of-mod t (x % 2 ^ t) x (mod-eq_of_lt (mod-lt x (pow_pos t))) in
    ap (bits_of (8 + t)) (sym (split x t)) ∙ sym (bits_of-append 8 t y (x % 2 ^ t) (mod-lt x (pow_pos t))) ∙ (λ i. sym a i ++ b i)

bytes_in_lem : (n x : ℕ) → bytes_of n (bits_of (n * 8) x) ≡ bytes_in n x
bytes_in_lem zero x = bytes_none []
bytes_in_lem (suc n) x =
    let e : suc n * 8 ≡ 8 + n * 8 = omega arith in
    ap (λ (k : ℕ). bytes_of (suc n) (bits_of k x)) e
    ∙ ap (bytes_of (suc n)) (byte_off (n * 8) x)
    ∙ bytes_cons n (x / 2 ^ (n * 8) % 256) (bits_of (n * 8) x) (mod-lt _ (lit< tt))
    ∙ ap (λ (l : List ℕ). x / 2 ^ (n * 8) % 256 ∷ l) (bytes_in_lem n x)

-- ---- zeros behind
abbrev zeros : ℕ → List Bit
zeros zero = []
zeros (suc p) = bit0 ∷ zeros p

zeros_are : (p : ℕ) → zeros p ≡ bits_of p 0
zeros_are zero = refl
zeros_are (suc p) = let z : 0 / 2 ^ p ≡ 0 = zero-div (2 ^ p) in rw (z, zeros_are p)

byte_zeros : (k v : ℕ) (bs : List Bit) (p : ℕ) → byte_from k v (bs ++ zeros p) ≡ byte_from k v bs
unfolding byte_from
byte_zeros zero v bs p = refl
byte_zeros (suc k) v [] zero = refl
byte_zeros (suc k) v [] (suc p) = let z : v * 2 + 0 ≡ v * 2 = add-zero (v * 2) in rw z (byte_zeros k (v * 2) [] p)
byte_zeros (suc k) v (b ∷ bs) p = byte_zeros k (v * 2 + num b) bs p

drop-zeros : (k : ℕ) (bs : List Bit) (p : ℕ) → (q : ℕ) × (drop k (bs ++ zeros p) ≡ drop k bs ++ zeros q)
drop-zeros zero bs p = (p, refl)
drop-zeros (suc k) (b ∷ bs) p = drop-zeros k bs p
drop-zeros (suc k) [] zero = (0, refl)
drop-zeros (suc k) [] (suc p) = let h = drop-zeros k [] p in (h.0, h.1 ∙ ap (λ (l : List Bit). l ++ zeros h.0) (drop-nil k))

bytes_zeros : (n : ℕ) (bs : List Bit) (p : ℕ) → bytes_of n (bs ++ zeros p) ≡ bytes_of n bs
unfolding bytes_of
bytes_zeros zero bs p = refl
bytes_zeros (suc n) bs p =
    let d = drop-zeros 8 bs p in
    (λ i. byte_zeros 8 0 bs p i ∷ bytes_of n (d.1 i)) ∙ ap (λ (l : List ℕ). byte_from 8 0 bs ∷ l) (bytes_zeros n (drop 8 bs) d.0)

-- t bits, in n bytes
bytes_number : (n t y : ℕ) → t ≤ n * 8 → bytes_of n (bits_of t y) ≡ bytes_in n (y * 2 ^ (n * 8 - t))
bytes_number n t y h =
    let p = n * 8 - t in
    let e : t + p ≡ n * 8 = omega arith in
    sym (bytes_zeros n (bits_of t y) p)
    ∙ ap (λ (l : List Bit). bytes_of n (bits_of t y ++ l)) (zeros_are p)
    ∙ ap (bytes_of n) (bits_of-append t p y 0 (pow_pos p))
    ∙ (λ i. bytes_of n (bits_of (e i) (add-zero (y * 2 ^ p) i)))
    ∙ bytes_in_lem n (y * 2 ^ p)

-- ---- the bytes before, and the bits kept of the first byte
bytes_skip : (j : ℕ) (s : List ℕ) (r m : ℕ) (w : List Bit) → ((i : ℕ) → get_or s i 0 < 256) → j ≤ length s
    → bytes_of (j + m) (bits_from s 0 (j * 8 + r) ++ w) ≡ take j s ++ bytes_of m (bits_from (drop j s) 0 r ++ w)
bytes_skip zero s r m w f h =
    let a : 0 + m ≡ m = zero-add m in
    let b : 0 * 8 + r ≡ r = omega arith in
    rw (a, b)
bytes_skip (suc j) [] r m w f h = absurd (omega arith)
bytes_skip (suc j) (b ∷ s) r m w f h =
    let a : suc j + m ≡ suc (j + m) = omega arith in
    let e : suc j * 8 + r ≡ 8 + (j * 8 + r) = omega arith in
    rw (a, e, bits_byte b s (j * 8 + r), append_assoc (bits_of 8 b) (bits_from s 0 (j * 8 + r)) w)
    (bytes_cons (j + m) b (bits_from s 0 (j * 8 + r) ++ w) (f 0)
    ∙ ap (λ (l : List ℕ). b ∷ l) (bytes_skip j s r m w (λ i. f (suc i)) (omega arith)))

kept_bits : (s : List ℕ) (j r : ℕ) → get_or s j 0 < 256 → r ≤ 8 → bits_from (drop j s) 0 r ≡ bits_of r (get_or s j 0 / 2 ^ (8 - r))
kept_bits s j r h l =
    let g : get_or (drop j s) 0 0 ≡ get_or s j 0 = get_or-drop j s 0 0 ∙ ap (λ (i : ℕ). get_or s i 0) (add-zero j) in
    bits_value (drop j s) 0 r
    ∙ ap (bits_of r) (byte_part (drop j s) 0 0 refl (rw g h) r l ∙ ap (λ (x : ℕ). x / 2 ^ (8 - r)) g)

-- ---- what the code stores
module _ (s : List ℕ) (at k v : ℕ) (f : (i : ℕ) → get_or s i 0 < 256) (room : at + k ≤ 8 * length s) (some : 1 ≤ k) (small : v < 2 ^ k) where
  put_is : bytes_with s at (bits_of k v)
      ≡ sets s (at / 8) (bytes_in ((at % 8 + k + 7) / 8) ((get_or s (at / 8) 0 / 2 ^ (8 - at % 8) * 2 ^ k + v) * 2 ^ ((at % 8 + k + 7) / 8 * 8 - (at % 8 + k))))
  put_is =
      let j = at / 8 in
      let r = at % 8 in
      let m = (r + k + 7) / 8 in
      let y = get_or s j 0 / 2 ^ (8 - r) * 2 ^ k + v in
      let x = y * 2 ^ (m * 8 - (r + k)) in
      let n : started_bytes (at + length (bits_of k v)) ≡ j + m = omega (arith, length-bits_of k v) in
      let p : at ≡ j * 8 + r = sym (div-add-mod' at 8) in
      let w : bits_from (drop j s) 0 r ++ bits_of k v ≡ bits_of (r + k) y =
      ap (λ (l : List Bit). l ++ bits_of k v) (kept_bits s j r (f j) (omega arith)) ∙ bits_of-append r k (get_or s j 0 / 2 ^ (8 - r)) v small in
      let b : bytes_of (j + m) (bits_from s 0 at ++ bits_of k v) ≡ take j s ++ bytes_in m x =
      ap (λ (i : ℕ). bytes_of (j + m) (bits_from s 0 i ++ bits_of k v)) p ∙ bytes_skip j s r m (bits_of k v) f (omega arith)
      ∙ ap (λ (l : List ℕ). take j s ++ l) (ap (bytes_of m) w ∙ bytes_number m (r + k) y (omega arith)) in
      let l = length-bytes_in m x in
      written_is s at (bits_of k v)
      ∙ ap (λ (i : ℕ). bytes_of i (bits_from s 0 at ++ bits_of k v) ++ drop i s) n
      ∙ ap (λ (z : List ℕ). z ++ drop (j + m) s) b
      ∙ ap (λ (i : ℕ). (take j s ++ bytes_in m x) ++ drop (j + i) s) (sym l)
      ∙ sym (sets-eq (bytes_in m x) s j (omega arith))

-- ---- that it fits 32 bits
module _ (b r k v m : ℕ) (hb : b < 256) (hr : r < 8) (hv : v < 2 ^ k) (hk : k ≤ 24) (hm : r + k ≤ m * 8) (h4 : m ≤ 4) where
  kept_lt : b / 2 ^ (8 - r) < 2 ^ r
  kept_lt = let e : r + (8 - r) ≡ 8 = omega arith in shr_lt r (8 - r) (rw e hb)

  kept_shl : (b / 2 ^ (8 - r) * 2 ^ k) % 2 ^ 32 ≡ b / 2 ^ (8 - r) * 2 ^ k
  kept_shl = shl_exact r k 32 kept_lt (omega arith)

  joined_lt : b / 2 ^ (8 - r) * 2 ^ k + v < 2 ^ (r + k)
  joined_lt =
      let q = b / 2 ^ (8 - r) in
      let a : (q + 1) * 2 ^ k ≤ 2 ^ r * 2 ^ k = mul-le-mul_right (2 ^ k) kept_lt' in
      omega (arith, a, add-mul q 1 (2 ^ k), pow-add 2 r k)
    where
      kept_lt' : b / 2 ^ (8 - r) + 1 ≤ 2 ^ r
      kept_lt' = omega (arith, kept_lt)

  joined_shl : ((b / 2 ^ (8 - r) * 2 ^ k + v) * 2 ^ (m * 8 - (r + k))) % 2 ^ 32 ≡ (b / 2 ^ (8 - r) * 2 ^ k + v) * 2 ^ (m * 8 - (r + k))
  joined_shl = shl_exact (r + k) (m * 8 - (r + k)) 32 joined_lt (omega arith)

  -- the number that the code makes
  number_is : (((b / 2 ^ (8 - r) * 2 ^ k) % 2 ^ 32 + v) * 2 ^ (m * 8 - (r + k))) % 2 ^ 32 ≡ (b / 2 ^ (8 - r) * 2 ^ k + v) * 2 ^ (m * 8 - (r + k))
  number_is = rw kept_shl joined_shl

  number_fits : (b / 2 ^ (8 - r) * 2 ^ k) % 2 ^ 32 + v < 2 ^ 32
  number_fits = rw kept_shl (lt_of_lt_of_le joined_lt (pow_mono {j = 32} (omega arith)))

-- ---- a field at a place, in a list of bytes
module _ (s : List ℕ) (at : ℕ) {k v : ℕ} (f : FieldFits k v) (bytes : (i : ℕ) → get_or s i 0 < 256) where
  abbrev first : ℕ
  first = get_or s (at / 8) 0

  abbrev many : ℕ
  many = (at % 8 + k + 7) / 8

  in_many : at % 8 + k ≤ many * 8
  in_many = omega (arith, f.short)

  four_most : many ≤ 4
  four_most = omega (arith, f.short)

  pub field_low : (first / 2 ^ (8 - at % 8) * 2 ^ k) % 2 ^ 32 + v < 2 ^ 32
  field_low = number_fits first (at % 8) k v many (bytes (at / 8)) (mod-lt at (lit< tt)) f.small f.short in_many four_most

  -- before the first turn all is yet to be stored
  pub stored_none : at + k ≤ 8 * length s
      → sets s (at / 8 + 0) (bytes_in (many - 0) ((((first / 2 ^ (8 - at % 8) * 2 ^ k) % 2 ^ 32 + v) * 2 ^ (many * 8 - (at % 8 + k))) % 2 ^ 32)) ≡ bytes_with s at (bits_of k v)
  stored_none room =
      rw (number_is first (at % 8) k v many (bytes (at / 8)) (mod-lt at (lit< tt)) f.small f.short in_many four_most, add-zero (at / 8), sub-zero many)
      (sym (put_is s at k v bytes room f.some f.small))

-- ---- the turns
-- what is yet to be stored, stored, leaves what was to be left
pub stored_more : (at i m x : ℕ) (o z : List ℕ) → i < m → sets o (at + i) (bytes_in (m - i) x) ≡ z
    → sets (set o (at + i) (x / 2 ^ ((m - 1 - i) * 8) % 256)) (at + (i + 1)) (bytes_in (m - (i + 1)) x) ≡ z
stored_more at i m x o z l e =
    let a : m - i ≡ suc (m - 1 - i) = omega arith in
    let b : m - (i + 1) ≡ m - 1 - i = omega arith in
    let c : at + (i + 1) ≡ suc (at + i) = omega arith in
    rw (b, c) (rw a at e)

pub stored_all : (at i m x : ℕ) (o z : List ℕ) → m ≤ i → sets o (at + i) (bytes_in (m - i) x) ≡ z → o ≡ z
stored_all at i m x o z l e = let a : m - i ≡ 0 = omega arith in rw a at e
