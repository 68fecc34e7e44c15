-- The zeros ahead, bit by bit; and what they say of a start code, by their number and that of the bits left. Assumes nothing.
use Prim.Native.Nat.{ℕ, suc, ◌+◌, ◌-◌, ◌≤◌, ◌<◌}
use mathlib.Core.Path.{◌≡◌, refl, sym, ap, ◌∙◌}
use mathlib.Core.Bool.{Bool, true, false}
use mathlib.Core.List.{List, [], ◌∷◌}
use native.Mathlib.Omega.{arith}
use lib.ListN.{length}
use lib.Dec.{leb}
use borrow.Author.Tests.{le-leb, lt-leb, leb-true, leb-false, eq-eqb, ne_eqb}
use Rattle.bits.specs.Bits.{Bit, bit0, bit1, num, bit_num, bit_at, bits_left}
use Rattle.bits.proofs.Value.{left_none, left_more, num_bit, length_bits}
use Rattle.h263_layers.specs.Start.{zeros_ahead, one_ahead, to_byte, stands, absent, cut_off, ahead}

-- ---- bit by bit
-- after `seen` zeros, the others are those of the bits left then
pub record Seen (s : List ℕ) (n at seen : ℕ) : Type 0 where
  pub reached : seen ≤ n - at
  pub zeros : zeros_ahead (bits_left s n at) ≡ seen + zeros_ahead (bits_left s n (at + seen))

pub seen_none : (s : List ℕ) (n at : ℕ) → Seen s n at 0
seen_none s n at =
    let same : zeros_ahead (bits_left s n at) ≡ zeros_ahead (bits_left s n (at + 0)) = ap (λ (a : ℕ). zeros_ahead (bits_left s n a)) is in
    record { reached = omega arith; zeros = omega (arith, same) }
  where
    is : at ≡ at + 0
    is = omega arith

-- the bits end
pub seen_all : (s : List ℕ) (n at seen : ℕ) → at ≤ n → Seen s n at seen → n - at ≤ seen → zeros_ahead (bits_left s n at) ≡ seen
seen_all s n at seen i h l =
    h.zeros ∙ ap (λ (bs : List Bit). seen + zeros_ahead bs) (left_none s n (at + seen) past) ∙ is
  where
    past : n ≤ at + seen
    past = omega arith

    is : seen + 0 ≡ seen
    is = omega arith

-- a bit by its number
one_bit : (b : Bit) (bs : List Bit) → num b ≡ 1 → zeros_ahead (b ∷ bs) ≡ 0
one_bit bit0 bs e = absurd (omega (arith, e))
one_bit bit1 bs e = refl

zero_bit : (b : Bit) (bs : List Bit) → (num b ≡ 1 → ⊥) → zeros_ahead (b ∷ bs) ≡ suc (zeros_ahead bs)
zero_bit bit0 bs e = refl
zero_bit bit1 bs e = absurd (e refl)

module _ (s : List ℕ) (n at seen : ℕ) (h : Seen s n at seen) (l : seen < n - at) where
  next_bit : bits_left s n (at + seen) ≡ bit_at s (at + seen) ∷ bits_left s n (at + seen + 1)
  next_bit = left_more s n (at + seen) (omega arith)

  -- a one follows
  pub seen_one : bit_num s (at + seen) ≡ 1 → zeros_ahead (bits_left s n at) ≡ seen
  seen_one e = h.zeros ∙ ap (λ (k : ℕ). seen + k) (ap zeros_ahead next_bit ∙ one_bit (bit_at s (at + seen)) (bits_left s n (at + seen + 1)) (num_bit s (at + seen) ∙ e)) ∙ is
    where
      is : seen + 0 ≡ seen
      is = omega arith

  -- a zero more
  pub seen_zero : (bit_num s (at + seen) ≡ 1 → ⊥) → Seen s n at (seen + 1)
  seen_zero e = record { reached = omega arith; zeros = h.zeros ∙ ap (λ (k : ℕ). seen + k) one_more ∙ is }
    where
      one_more : zeros_ahead (bits_left s n (at + seen)) ≡ suc (zeros_ahead (bits_left s n (at + seen + 1)))
      one_more = ap zeros_ahead next_bit ∙ zero_bit (bit_at s (at + seen)) (bits_left s n (at + seen + 1)) (λ z. e (sym (num_bit s (at + seen)) ∙ z))

      further : at + seen + 1 ≡ at + (seen + 1)
      further = omega arith

      is : seen + suc (zeros_ahead (bits_left s n (at + seen + 1))) ≡ seen + 1 + zeros_ahead (bits_left s n (at + (seen + 1)))
      is =
          let same : zeros_ahead (bits_left s n (at + seen + 1)) ≡ zeros_ahead (bits_left s n (at + (seen + 1))) = ap (λ (a : ℕ). zeros_ahead (bits_left s n a)) further in
          omega (arith, same)

-- ---- what they say
-- a one follows exactly where the zeros are not all of the bits
one_follows : (bs : List Bit) → zeros_ahead bs < length bs → one_ahead bs ≡ true
one_follows [] l = absurd (omega (arith, l))
one_follows (bit0 ∷ bs) l = one_follows bs (omega (arith, l))
one_follows (bit1 ∷ bs) l = refl

none_follows : (bs : List Bit) → length bs ≤ zeros_ahead bs → one_ahead bs ≡ false
none_follows [] l = refl
none_follows (bit0 ∷ bs) l = none_follows bs (omega (arith, l))
none_follows (bit1 ∷ bs) l = absurd (omega (arith, l))

module _ (s : List ℕ) (n at : ℕ) where
  abbrev zeros : ℕ
  zeros = zeros_ahead (bits_left s n at)

  byte_short : to_byte at ≤ 7
  byte_short = omega arith

  long : length (bits_left s n at) ≡ n - at
  long = length_bits s at (n - at)

  -- all bits left are zeros
  module _ (l : n - at ≤ zeros) where
    all-zeros : one_ahead (bits_left s n at) ≡ false
    all-zeros = none_follows (bits_left s n at) (omega (arith, l, long))

    pub cut_off_lem : zeros ≤ 16 + to_byte at → cut_off ≡ ahead (bits_left s n at) at
    unfolding ahead
    cut_off_lem few = rw (all-zeros, le-leb zeros (16 + to_byte at) few)

    pub all_absent : 16 + to_byte at < zeros → absent ≡ ahead (bits_left s n at) at
    unfolding ahead
    all_absent many = rw (all-zeros, lt-leb zeros (16 + to_byte at) many)

  -- a one follows them
  module _ (l : zeros < n - at) where
    a_one : one_ahead (bits_left s n at) ≡ true
    a_one = one_follows (bits_left s n at) (omega (arith, l, long))

    pub stands_alone : zeros ≡ 16 → stands 0 ≡ ahead (bits_left s n at) at
    unfolding ahead
    stands_alone e = rw (a_one, eq-eqb zeros 16 e)

    pub stands_stuffed : (zeros ≡ 16 → ⊥) → zeros ≡ 16 + to_byte at → stands (to_byte at) ≡ ahead (bits_left s n at) at
    unfolding ahead
    stands_stuffed d e = rw (a_one, ne_eqb zeros 16 d, eq-eqb zeros (16 + to_byte at) e)

    pub one_absent : (zeros ≡ 16 → ⊥) → (zeros ≡ 16 + to_byte at → ⊥) → absent ≡ ahead (bits_left s n at) at
    unfolding ahead
    one_absent d e = rw (a_one, ne_eqb zeros 16 d, ne_eqb zeros (16 + to_byte at) e)

  -- more than any start code has
  pub far_absent : 24 ≤ zeros → absent ≡ ahead (bits_left s n at) at
  far_absent many = by_left (leb (n - at) zeros) refl
    where
      by_left : (b : Bool) → leb (n - at) zeros ≡ b → absent ≡ ahead (bits_left s n at) at
      by_left true e =
          let l : n - at ≤ zeros = leb-true (n - at) zeros e in
          let beyond : 16 + to_byte at < zeros = omega (arith, byte_short) in
          all_absent l beyond
      by_left false e =
          let l : zeros < n - at = leb-false (n - at) zeros e in
          one_absent l (λ z. omega (arith, z)) (λ z. omega (arith, z, byte_short))
