-- The bits of a frame, gathered into bytes, and its data bits, put after others. Assumes nothing.
use mathlib.Core.Path.{◌≡◌, refl, sym, ap, ◌∙◌}
use mathlib.Core.List.{List, ◌++◌}
use Prim.Native.Nat.{ℕ, zero, suc, ◌+◌, ◌*◌, ◌/◌, ◌%◌, ◌≤◌, ◌<◌}
use native.Mathlib.Nat.{div-one}
use native.Mathlib.Decide.{ℕ_discrete}
use native.Mathlib.Omega.{arith}
use lib.Dec.{lit≤}
use lib.ListN.{length, get_or, set, length-set}
use lib.Seq.{get_or-set_same, get_or-set_other}
use Rattle.bits.specs.Bits.{Bit, bits_of, value, bits_from}
use Rattle.bits.specs.Write.{bytes_with}
use Rattle.bits.proofs.Value.{value_first, value_within, length_bits, bits_split, byte_bits}
use Rattle.bits.proofs.Numbers.{bits_value}
use Rattle.bits.proofs.Fields.{length-bits_of}
use Rattle.bits.proofs.Write.{length_written, written_more}

-- the first m bytes of f are those of the bits of s from `at` on
pub record Gathered (s : List ℕ) (at : ℕ) (m : ℕ) (f : List ℕ) : Type 0 where
  pub size : length f ≡ 64
  pub bytes : (j : ℕ) → j < m → get_or f j 0 ≡ value s (at + 8 * j) 8

pub none_gathered : (s : List ℕ) (at : ℕ) (f : List ℕ) → length f ≡ 64 → Gathered s at 0 f
none_gathered s at f e = record { size = e; bytes = λ j l. absurd (omega arith) }

-- one byte more
pub one_gathered : (s : List ℕ) (at m n b : ℕ) (f : List ℕ) → m < 64 → n ≡ m + 1 → Gathered s at m f
    → b ≡ value s (at + 8 * m) 8 → Gathered s at n (set f m b)
one_gathered s at m n b f l k g e = record { size = length-set f m b ∙ g.size; bytes = λ j h. go j h (ℕ_discrete j m) }
  where
    go : (j : ℕ) → j < n → Dec (j ≡ m) → get_or (set f m b) j 0 ≡ value s (at + 8 * j) 8
    go j h (yes q) = ap (λ (j : ℕ). get_or (set f m b) j 0) q ∙ get_or-set_same f m b 0 (omega (arith, g.size)) ∙ e ∙ ap (λ (j : ℕ). value s (at + 8 * j) 8) (sym q)
    go j h (no q) = get_or-set_other f m j b 0 q ∙ g.bytes j (omega arith)

-- the three bytes of 24 bits
module _ (s : List ℕ) (at i w : ℕ) (e : w ≡ value s (at + 24 * i) 24) where
  pub first_byte : w / 65536 ≡ value s (at + 8 * (3 * i)) 8
  first_byte =
      let p : at + 24 * i ≡ at + 8 * (3 * i) = omega arith in
      ap (λ (w : ℕ). w / 65536) e ∙ value_first s (at + 24 * i) 8 16 ∙ ap (λ (a : ℕ). value s a 8) p

  pub second_byte : w / 256 % 256 ≡ value s (at + 8 * (3 * i + 1)) 8
  second_byte =
      let p : at + 24 * i + 8 ≡ at + 8 * (3 * i + 1) = omega arith in
      ap (λ (w : ℕ). w / 256 % 256) e ∙ value_within s (at + 24 * i) 8 8 8 ∙ ap (λ (a : ℕ). value s a 8) p

  pub third_byte : w % 256 ≡ value s (at + 8 * (3 * i + 2)) 8
  third_byte =
      let p : at + 24 * i + 16 ≡ at + 8 * (3 * i + 2) = omega arith in
      ap (λ (w : ℕ). w % 256) (e ∙ sym (div-one (value s (at + 24 * i) 24))) ∙ value_within s (at + 24 * i) 16 8 0 ∙ ap (λ (a : ℕ). value s a 8) p

pub three_gathered : (s : List ℕ) (at i w : ℕ) (f : List ℕ) → i < 21 → w ≡ value s (at + 24 * i) 24 → Gathered s at (3 * i) f
    → Gathered s at (3 * (i + 1)) (set (set (set f (3 * i) (w / 65536)) (3 * i + 1) (w / 256 % 256)) (3 * i + 2) (w % 256))
three_gathered s at i w f l e g =
    let one = one_gathered s at (3 * i) (3 * i + 1) (w / 65536) f (omega arith) refl g (first_byte s at i w e) in
    let two = one_gathered s at (3 * i + 1) (3 * i + 2) (w / 256 % 256) _ (omega arith) (omega arith) one (second_byte s at i w e) in
    one_gathered s at (3 * i + 2) (3 * (i + 1)) (w % 256) _ (omega arith) (omega arith) two (third_byte s at i w e)

bytes_same : (s : List ℕ) (at : ℕ) (f : List ℕ) → Gathered s at 64 f → (m j : ℕ) → j + m ≤ 64
    → bits_from f (8 * j) (m * 8) ≡ bits_from s (at + 8 * j) (m * 8)
unfolding bits_from
bytes_same s at f g zero j l = refl
bytes_same s at f g (suc m) j l =
    let e : suc m * 8 ≡ 8 + m * 8 = omega arith in
    let p : 8 * j + 8 ≡ 8 * (j + 1) = omega arith in
    let q : at + 8 * (j + 1) ≡ at + 8 * j + 8 = omega arith in
    let byte : bits_from f (8 * j) 8 ≡ bits_from s (at + 8 * j) 8 =
    byte_bits f j (8 * j) 8 (lit≤ tt) (omega arith) ∙ ap (bits_of 8) (g.bytes j (omega arith)) ∙ sym (bits_value s (at + 8 * j) 8) in
    ap (bits_from f (8 * j)) e ∙ bits_split f (8 * j) 8 (m * 8)
    ∙ (λ i. byte i ++ bits_from f (p i) (m * 8))
    ∙ ap (λ (w : List Bit). bits_from s (at + 8 * j) 8 ++ w) (bytes_same s at f g m (j + 1) (omega arith) ∙ ap (λ (a : ℕ). bits_from s a (m * 8)) q)
    ∙ sym (ap (bits_from s (at + 8 * j)) e ∙ bits_split s (at + 8 * j) 8 (m * 8))

pub all_gathered : (s : List ℕ) (at : ℕ) (f : List ℕ) → Gathered s at 64 f → bits_from f 0 512 ≡ bits_from s at 512
all_gathered s at f g = let e : at + 8 * 0 ≡ at = omega arith in bytes_same s at f g 64 0 (lit≤ tt) ∙ ap (λ (a : ℕ). bits_from s a 512) e

-- ---- the data bits
pub put_size : (out : List ℕ) (to k v : ℕ) (out' : List ℕ) → out' ≡ bytes_with out to (bits_of k v) → to + k ≤ 8 * length out → length out' ≡ length out
put_size out to k v out' e room = ap length e ∙ length_written out to (bits_of k v) (omega (arith, length-bits_of k v))

pub first_put : (f out : List ℕ) (to w : ℕ) → w ≡ value f 2 24 → bytes_with out to (bits_of 12 (w / 4096)) ≡ bytes_with out to (bits_from f 2 12)
first_put f out to w e =
    ap (λ (v : ℕ). bytes_with out to (bits_of 12 v)) (ap (λ (w : ℕ). w / 4096) e ∙ value_first f 2 12 12) ∙ ap (bytes_with out to) (sym (bits_value f 2 12))

-- 24 of them after those that were put before
pub more_put : (f out : List ℕ) (to i w : ℕ) → to + 492 ≤ 8 * length out → i < 20 → w ≡ value f (14 + 24 * i) 24
    → bytes_with (bytes_with out to (bits_from f 2 (12 + 24 * i))) (to + 12 + 24 * i) (bits_of 24 w) ≡ bytes_with out to (bits_from f 2 (12 + 24 * (i + 1)))
more_put f out to i w room l e =
    let k = 12 + 24 * i in
    let n = length_bits f 2 k in
    let a : to + 12 + 24 * i ≡ to + length (bits_from f 2 k) = omega arith in
    let b : 14 + 24 * i ≡ 2 + k = omega arith in
    let c : k + 24 ≡ 12 + 24 * (i + 1) = omega arith in
    (λ j. bytes_with (bytes_with out to (bits_from f 2 k)) (a j) (bits_of 24 (e j)))
    ∙ written_more out to (bits_from f 2 k) (omega arith) (bits_of 24 (value f (14 + 24 * i) 24))
    ∙ ap (λ (v : List Bit). bytes_with out to (bits_from f 2 k ++ v)) (sym (bits_value f (14 + 24 * i) 24) ∙ ap (λ (j : ℕ). bits_from f j 24) b)
    ∙ ap (bytes_with out to) (sym (bits_split f 2 k 24) ∙ ap (bits_from f 2) c)

-- the loop's invariant: whatever stood there before the first twelve bits
abbrev pub PutOn : List ℕ → ℕ → ℕ → List ℕ → List ℕ → Type 0
PutOn f to i before out =
    (first : List ℕ) → to + 492 ≤ 8 * length first → before ≡ bytes_with first to (bits_from f 2 12) → out ≡ bytes_with first to (bits_from f 2 (12 + 24 * i))
