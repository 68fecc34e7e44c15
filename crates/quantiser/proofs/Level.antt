-- Levels to coefficients: their sizes, and the way in which the code computes them. Assumes nothing.
use mathlib.Core.Path.{◌≡◌, refl, sym, ap, subst, ◌∙◌}
use mathlib.Core.Bool.{Bool, true, false}
use mathlib.Core.Logic.{⊎_elim}
use mathlib.Core.List.{List}
use Prim.Native.Nat.{ℕ, zero, suc, ◌+◌, ◌*◌, ◌-◌, ◌%◌, ◌≤◌, ◌<◌, zero-le, suc-le-suc}
use native.Mathlib.Nat.{le_refl, le_trans, le_of_lt, mul-one, mul-add, mul_assoc, mul_comm, mul-le-mul_left}
use native.Mathlib.Omega.{arith}
use borrow.Author.Tests.{ltb-true, ltb-false, lt-ltb, le-ltb}
use lib.Dec.{eqb, ltb, lit≤}
use lib.IntN.{ℤ, pos, negsuc, neg_ℤ, one, ◌+ℤ◌, ◌-ℤ◌, ◌*ℤ◌, neg_ℤ-+ℤ, *ℤ-zero, *ℤ-one, *ℤ-negsuc}
use Rattle.laws.specs.Choice.{pick, both}
use Rattle.laws.specs.Integer.{Low}
use Rattle.laws.proofs.Integer.{low_up, low_add, low_mul, low_neg, sub_below, sub_above}
use Rattle.laws.proofs.Rows.{lt-or-ge}
use Rattle.laws.specs.Block.{cell, Is}
use Rattle.laws.proofs.Block.{is_each}
use Rattle.quantiser.specs.Cut.{cut, at_least, at_most}
use Rattle.quantiser.proofs.CutLaws.{cut_low, pick_true, pick-false}
use Rattle.quantiser.specs.Level.{coefficient, value_at, cut_coefficient, magnitude, position_at, direct, level_of, signed, coefficient_at}

-- It is the number by the level cut to -1..1.
pub signed_product : (number level : ℤ) → number *ℤ cut (negsuc 0) (pos 1) level ≡ signed number level
unfolding one signed cut at_least at_most
signed_product number (pos zero) = *ℤ-zero number
signed_product number (pos (suc zero)) = *ℤ-one number
signed_product number (pos (suc (suc n))) =
    ap (λ (b : Bool). number *ℤ pick b (pos 1) (pos (suc (suc n)))) (lt-ltb 1 (suc (suc n)) (suc-le-suc (suc-le-suc zero-le))) ∙ *ℤ-one number
signed_product number (negsuc zero) = *ℤ-negsuc number 0 ∙ ap neg_ℤ (*ℤ-one number)
signed_product number (negsuc (suc n)) =
    ap (λ (b : Bool). number *ℤ at_most (pos 1) (pick b (negsuc 0) (negsuc (suc n)))) (lt-ltb 0 (suc n) (suc-le-suc zero-le))
    ∙ *ℤ-negsuc number 0 ∙ ap neg_ℤ (*ℤ-one number)

-- A byte as a level, by its highest bit.
level_positive : (byte : ℕ) → byte < 128 → pos byte ≡ level_of byte
unfolding level_of
level_positive byte l = pick_true (pos byte) _ (lt-ltb byte 128 l)

-- Without its test: half a turn on, and half a turn back.
pub level_turned : (byte : ℕ) → byte < 256 → pos ((byte + 128) % 256) -ℤ pos 128 ≡ level_of byte
unfolding level_of
level_turned byte l = ⊎_elim low high (lt-or-ge byte 128)
  where
    low : byte < 128 → pos ((byte + 128) % 256) -ℤ pos 128 ≡ level_of byte
    low p =
        let b : 128 ≤ (byte + 128) % 256 = omega arith in
        let e : (byte + 128) % 256 - 128 ≡ byte = omega arith in
        sub_below ((byte + 128) % 256) 128 b ∙ ap pos e ∙ level_positive byte p

    high : 128 ≤ byte → pos ((byte + 128) % 256) -ℤ pos 128 ≡ level_of byte
    high p =
        let a : (byte + 128) % 256 < 128 = omega arith in
        let e : 128 - (byte + 128) % 256 ≡ 256 - byte = omega arith in
        sub_above ((byte + 128) % 256) 128 a ∙ ap (λ (n : ℕ). neg_ℤ (pos n)) e ∙ pick-false (pos byte) _ (le-ltb byte 128 p)

-- The magnitude at size 0: Q, or Q - 1 where Q is even.
pub magnitude-none : (quantiser : ℕ) → pick (eqb (quantiser % 2) 0) (quantiser - 1) quantiser ≡ magnitude quantiser 0
unfolding magnitude
magnitude-none quantiser = ap (λ (n : ℕ). pick (eqb (quantiser % 2) 0) (n - 1) n) (sym (mul-one quantiser))

-- Q(2n+1) is 2Qn + Q, and where Q is even, each less 1.
pub magnitude-sum : (quantiser size : ℕ) → 1 ≤ quantiser → magnitude quantiser size ≡ 2 * quantiser * size + magnitude quantiser 0
unfolding magnitude
magnitude-sum quantiser size l = go (eqb (quantiser % 2) 0) (2 * quantiser * size) (product quantiser size)
  where
    product : (q n : ℕ) → q * (2 * n + 1) ≡ 2 * q * n + q * 1
    product q n = mul-add q (2 * n) 1 ∙ ap (λ (k : ℕ). k + q * 1) (sym (mul_assoc q 2 n) ∙ ap (λ (k : ℕ). k * n) (mul_comm q 2))

    go : (even : Bool) (k : ℕ) {m : ℕ} → m ≡ k + quantiser * 1 → pick even (m - 1) m ≡ k + pick even (quantiser * 1 - 1) (quantiser * 1)
    go true k e = omega arith
    go false k e = e

-- Of either sign: s times Q(2|L|+1) is 2QL + sQ.
pub coefficient-sum : (quantiser : ℕ) (level : ℤ) → 1 ≤ quantiser → coefficient quantiser level ≡ cut_coefficient (pos 2 *ℤ pos quantiser *ℤ level +ℤ signed (pos (magnitude quantiser 0)) level)
unfolding coefficient signed cut at_least at_most
coefficient-sum quantiser (pos zero) l = ap (λ (n : ℕ). cut_coefficient (pos n)) (none quantiser)
  where
    none : (q : ℕ) → 0 ≡ 2 * q * 0 + 0
    none q = omega arith
coefficient-sum quantiser (pos (suc n)) l = ap (λ (m : ℕ). cut_coefficient (pos m)) (magnitude-sum quantiser (suc n) l)
coefficient-sum quantiser (negsuc n) l =
    ap (λ (m : ℕ). cut_coefficient (neg_ℤ (pos m))) (magnitude-sum quantiser (suc n) l)
    ∙ ap cut_coefficient (neg_ℤ-+ℤ (pos (2 * quantiser * suc n)) (pos (magnitude quantiser 0)))

pub level_none : (quantiser : ℕ) → coefficient quantiser (level_of 0) ≡ pos 0
unfolding level_of coefficient
level_none quantiser = refl

-- ---- how large the numbers are
magnitude_least : (quantiser : ℕ) → magnitude quantiser 0 ≤ quantiser
magnitude_least quantiser = subst (λ (n : ℕ). n ≤ quantiser) (magnitude-none quantiser) (go (eqb (quantiser % 2) 0))
  where
    go : (even : Bool) → pick even (quantiser - 1) quantiser ≤ quantiser
    go true = omega arith
    go false = le_refl quantiser

pub level_low : (byte : ℕ) → byte ≤ 255 → Low 128 (level_of byte)
unfolding level_of
level_low byte l = go (ltb byte 128) refl
  where
    go : (b : Bool) → ltb byte 128 ≡ b → Low 128 (pick b (pos byte) (neg_ℤ (pos (256 - byte))))
    go true e = record { low = le_of_lt (ltb-true byte 128 e) }
    go false e = low_neg {a = pos (256 - byte)} (record { low = omega (arith, ltb-false byte 128 e) })

pub signed_low : {m : ℕ} {number : ℤ} (level : ℤ) → Low m number → Low m (signed number level)
unfolding signed
signed_low (pos zero) p = record { low = zero-le }
signed_low (pos (suc n)) p = p
signed_low (negsuc n) p = low_neg p

-- the parts of the sum for a coefficient, and the sum before it is cut
module _ (quantiser byte : ℕ) (p : quantiser ≤ 31) (q : byte ≤ 255) where
  pub odd_low : Low 31 (pos (magnitude quantiser 0))
  odd_low = record { low = le_trans (magnitude_least quantiser) p }

  pub twice_low : Low 62 (pos 2 *ℤ pos quantiser)
  twice_low = record { low = mul-le-mul_left 2 p }

  pub product_low : Low 7936 (pos 2 *ℤ pos quantiser *ℤ level_of byte)
  product_low = low_mul twice_low (level_low byte q)

  pub sum_low : Low 7967 (pos 2 *ℤ pos quantiser *ℤ level_of byte +ℤ signed (pos (magnitude quantiser 0)) (level_of byte))
  sum_low = low_add product_low (signed_low (level_of byte) odd_low)

pub coefficient_low : (quantiser : ℕ) (level : ℤ) → Low 2048 (coefficient quantiser level)
unfolding coefficient
coefficient_low quantiser (pos zero) = record { low = zero-le }
coefficient_low quantiser (pos (suc n)) = cut_low 2047 2047 (lit≤ tt) (lit≤ tt) _
coefficient_low quantiser (negsuc n) = cut_low 2047 2047 (lit≤ tt) (lit≤ tt) _

pub direct_low : (code : ℕ) → code ≤ 255 → Low 2040 (direct code)
unfolding direct
direct_low code l = go (eqb code 255) l
  where
    go : (b : Bool) {code : ℕ} → code ≤ 255 → Low 2040 (pick b (pos 1024) (pos (8 * code)))
    go true l = record { low = lit≤ tt }
    go false l = record { low = omega arith }

pub value_low : (bytes : ℕ → ℕ) (intra : Bool) (quantiser position : ℕ) → bytes position ≤ 255 → Low 2048 (value_at bytes intra quantiser position)
unfolding value_at
value_low bytes intra quantiser position l =
    go (both intra (eqb position 0)) (low_up 2048 (direct_low (bytes position) l) (lit≤ tt)) (coefficient_low quantiser (level_of (bytes position)))
  where
    go : (b : Bool) {x y : ℤ} → Low 2048 x → Low 2048 y → Low 2048 (pick b x y)
    go true p q = p
    go false p q = q

-- A dequantised block meets what the inverse transform requires.
pub dequantised_small : (bytes : ℕ → ℕ) (intra : Bool) (quantiser : ℕ) {block : List (List ℤ)} → ((position : ℕ) → bytes position ≤ 255) → Is (pos 0) (coefficient_at bytes intra quantiser) block → (i j : ℕ) → Low 2048 (cell (pos 0) block i j)
unfolding coefficient_at
dequantised_small bytes intra quantiser most is =
    is_each (λ (z : ℤ). Low 2048 z) is (record { low = zero-le }) (λ i j. value_low bytes intra quantiser (position_at i j) (most (position_at i j)))
