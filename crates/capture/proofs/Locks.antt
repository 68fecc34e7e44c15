-- Framing bits by place, and the search for lock. Assumes nothing.
use mathlib.Core.Path.{◌≡◌, refl, sym, ap, ◌∙◌}
use mathlib.Core.Bool.{Bool, true, false}
use mathlib.Core.Logic.{◌⊎◌, inl, inr}
use mathlib.Core.List.{List, ◌∷◌}
use Prim.Native.Nat.{ℕ, zero, suc, ◌+◌, ◌-◌, ◌*◌, ◌/◌, ◌%◌, ◌^◌, ◌≤◌, ◌<◌}
use native.Mathlib.Nat.{mod-lt}
use native.Mathlib.Omega.{arith}
use lib.Dec.{lit<}
use Rattle.laws.specs.Choice.{pick, both}
use Rattle.laws.proofs.Choice.{second_no}
use Rattle.laws.proofs.Rows.{lt-or-ge}
use Rattle.bits.specs.Bits.{Bit, bit0, bit1, bit_of, bits_of, bit_num, bit_at, bits_left, same}
use Rattle.bits.proofs.Value.{bit_num-lt, left_none, left_more, left_drop}
use Rattle.capture.specs.Capture.{lock_at, no_lock, pattern, framed_by, lock_from}

-- ---- framing bits
-- the framing bit at a, and those 512 bits further on
framed_on : (s : List ℕ) (n a k x : ℕ) → a < n
    → framed_by (bits_of (suc k) x) (bits_left s n a) ≡ both (same (bit_of (x / 2 ^ k % 2)) (bit_at s a)) (framed_by (bits_of k x) (bits_left s n (a + 512)))
unfolding framed_by
framed_on s n a k x l =
    let e : a + 1 + 511 ≡ a + 512 = omega arith in
    ap (framed_by (bits_of (suc k) x)) (left_more s n a l)
    ∙ ap (λ (bs : List Bit). both (same (bit_of (x / 2 ^ k % 2)) (bit_at s a)) (framed_by (bits_of k x) bs)) (left_drop s n (a + 1) 511 ∙ ap (bits_left s n) e)

-- the last framing bit lies past the end
framed_short : (k x : ℕ) (s : List ℕ) (n a : ℕ) → n ≤ a + 512 * k → framed_by (bits_of (suc k) x) (bits_left s n a) ≡ false
unfolding framed_by
framed_short zero x s n a l = ap (framed_by (bits_of 1 x)) (left_none s n a (omega arith))
framed_short (suc k) x s n a l = go (lt-or-ge a n) (framed_short k x s n (a + 512) (omega arith))
  where
    go : (a < n) ⊎ (n ≤ a) → framed_by (bits_of (suc k) x) (bits_left s n (a + 512)) ≡ false → framed_by (bits_of (suc (suc k)) x) (bits_left s n a) ≡ false
    go (inl m) more = framed_on s n a (suc k) x m ∙ second_no (same (bit_of (x / 2 ^ suc k % 2)) (bit_at s a)) _ more
    go (inr m) more = ap (framed_by (bits_of (suc (suc k)) x)) (left_none s n a m)

same_self : (b : Bit) → same b b ≡ true
same_self bit0 = refl
same_self bit1 = refl

same_no : (p q : ℕ) → p < 2 → q < 2 → (q ≡ p → ⊥) → same (bit_of p) (bit_of q) ≡ false
same_no zero zero l m n = absurd (n refl)
same_no zero (suc zero) l m n = refl
same_no (suc zero) zero l m n = refl
same_no (suc zero) (suc zero) l m n = absurd (n refl)
same_no zero (suc (suc q)) l m n = absurd (omega arith)
same_no (suc zero) (suc (suc q)) l m n = absurd (omega arith)
same_no (suc (suc p)) q l m n = absurd (omega arith)

module _ (s : List ℕ) (n a x j k : ℕ) (l : a + 512 * j < n) (m : j < k) where
  next_framed : framed_by (bits_of (k - j) x) (bits_left s n (a + 512 * j))
      ≡ both (same (bit_of (x / 2 ^ (k - 1 - j) % 2)) (bit_at s (a + 512 * j))) (framed_by (bits_of (k - (j + 1)) x) (bits_left s n (a + 512 * (j + 1))))
  next_framed =
      let e : k - j ≡ suc (k - 1 - j) = omega arith in
      let f : k - 1 - j ≡ k - (j + 1) = omega arith in
      let g : a + 512 * j + 512 ≡ a + 512 * (j + 1) = omega arith in
      ap (λ (i : ℕ). framed_by (bits_of i x) (bits_left s n (a + 512 * j))) e ∙ framed_on s n (a + 512 * j) (k - 1 - j) x l
      ∙ (λ i. both (same (bit_of (x / 2 ^ (k - 1 - j) % 2)) (bit_at s (a + 512 * j))) (framed_by (bits_of (f i) x) (bits_left s n (g i))))

  pub framed_next : bit_num s (a + 512 * j) ≡ x / 2 ^ (k - 1 - j) % 2
      → framed_by (bits_of (k - j) x) (bits_left s n (a + 512 * j)) ≡ framed_by (bits_of (k - (j + 1)) x) (bits_left s n (a + 512 * (j + 1)))
  unfolding bit_at
  framed_next e =
      next_framed
      ∙ ap (λ (b : Bool). both b (framed_by (bits_of (k - (j + 1)) x) (bits_left s n (a + 512 * (j + 1)))))
      (ap (λ (p : ℕ). same (bit_of (x / 2 ^ (k - 1 - j) % 2)) (bit_of p)) e ∙ same_self (bit_of (x / 2 ^ (k - 1 - j) % 2)))

  pub framed_other : (bit_num s (a + 512 * j) ≡ x / 2 ^ (k - 1 - j) % 2 → ⊥) → framed_by (bits_of (k - j) x) (bits_left s n (a + 512 * j)) ≡ false
  unfolding bit_at
  framed_other o =
      next_framed
      ∙ ap (λ (b : Bool). both b (framed_by (bits_of (k - (j + 1)) x) (bits_left s n (a + 512 * (j + 1)))))
      (same_no (x / 2 ^ (k - 1 - j) % 2) (bit_num s (a + 512 * j)) (mod-lt _ (lit< tt)) (bit_num-lt s (a + 512 * j)) o)

pub framed_all : (k x : ℕ) (bs : List Bit) → k ≡ 0 → framed_by (bits_of k x) bs ≡ true
unfolding framed_by
framed_all k x bs e = ap (λ (k : ℕ). framed_by (bits_of k x) bs) e

-- ---- lock
lock_on : (s : List ℕ) (n a : ℕ) → a < n
    → lock_from (bits_left s n a) a ≡ pick (framed_by pattern (bits_left s n a)) (lock_at a) (lock_from (bits_left s n (a + 1)) (a + 1))
unfolding lock_from
lock_on s n a l = ap (λ (bs : List Bit). lock_from bs a) e ∙ ap (λ (bs : List Bit). pick (framed_by pattern bs) (lock_at a) (lock_from (bits_left s n (a + 1)) (a + 1))) (sym e)
  where
    e : bits_left s n a ≡ bit_at s a ∷ bits_left s n (a + 1)
    e = left_more s n a l

pub lock_here : (s : List ℕ) (n a : ℕ) → a < n → true ≡ framed_by pattern (bits_left s n a) → lock_at a ≡ lock_from (bits_left s n a) a
lock_here s n a l e =
    sym (lock_on s n a l ∙ ap (λ (b : Bool). pick b (lock_at a) (lock_from (bits_left s n (a + 1)) (a + 1))) (sym e))

pub lock_later : (s : List ℕ) (n a : ℕ) → a < n → false ≡ framed_by pattern (bits_left s n a)
    → lock_from (bits_left s n (a + 1)) (a + 1) ≡ lock_from (bits_left s n a) a
lock_later s n a l e =
    sym (lock_on s n a l ∙ ap (λ (b : Bool). pick b (lock_at a) (lock_from (bits_left s n (a + 1)) (a + 1))) (sym e))

pub lock_none : (s : List ℕ) (n a : ℕ) → n ≤ a → no_lock ≡ lock_from (bits_left s n a) a
unfolding lock_from
lock_none s n a l = sym (ap (λ (bs : List Bit). lock_from bs a) (left_none s n a l))

-- the 24th framing bit lies past the end, from here on
lock_past : (m : ℕ) (s : List ℕ) (n a : ℕ) → n - a ≤ m → n ≤ a + 11776 → no_lock ≡ lock_from (bits_left s n a) a
lock_past zero s n a l r = lock_none s n a (omega arith)
lock_past (suc m) s n a l r = go (lt-or-ge a n) (lock_past m s n (a + 1) (omega arith) (omega arith))
  where
    go : (a < n) ⊎ (n ≤ a) → no_lock ≡ lock_from (bits_left s n (a + 1)) (a + 1) → no_lock ≡ lock_from (bits_left s n a) a
    go (inl h) more = more ∙ lock_later s n a h (sym (framed_short 23 0b000110110001101100011011 s n a (omega arith)))
    go (inr h) more = lock_none s n a h

pub lock_short : (s : List ℕ) (n a : ℕ) → n - a ≤ 11776 → no_lock ≡ lock_from (bits_left s n a) a
lock_short s n a l = lock_past (n - a) s n a (omega arith) (omega arith)

-- ---- lock lies inside
lock_step : (s : List ℕ) (n a p : ℕ) → a < n → (lock_from (bits_left s n (a + 1)) (a + 1) ≡ lock_at p → p ≤ n)
    → lock_from (bits_left s n a) a ≡ lock_at p → p ≤ n
lock_step s n a p l more e = go (framed_by pattern (bits_left s n a)) (sym (lock_on s n a l) ∙ e)
  where
    go : (b : Bool) → pick b (lock_at a) (lock_from (bits_left s n (a + 1)) (a + 1)) ≡ lock_at p → p ≤ n
    go true e = let same : a ≡ p = cc in omega arith
    go false e = more e

lock_below : (m : ℕ) (s : List ℕ) (n a p : ℕ) → n - a ≤ m → lock_from (bits_left s n a) a ≡ lock_at p → p ≤ n
lock_below zero s n a p l e = let other : no_lock ≡ lock_at p = lock_none s n a (omega arith) ∙ e in let z : ◌≡◌ {A = ℕ} 0 1 = cc in absurd (omega arith)
lock_below (suc m) s n a p l e = go (lt-or-ge a n) (lock_below m s n (a + 1) p (omega arith))
  where
    go : (a < n) ⊎ (n ≤ a) → (lock_from (bits_left s n (a + 1)) (a + 1) ≡ lock_at p → p ≤ n) → p ≤ n
    go (inl h) more = lock_step s n a p h more e
    go (inr h) more = let other : no_lock ≡ lock_at p = lock_none s n a h ∙ e in let z : ◌≡◌ {A = ℕ} 0 1 = cc in absurd (omega arith)

pub lock_inside : (s : List ℕ) (n p : ℕ) → lock_at p ≡ lock_from (bits_left s n 0) 0 → p ≤ n
lock_inside s n p e = lock_below n s n 0 p (omega arith) (sym e)
