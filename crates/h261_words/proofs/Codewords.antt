-- The codeword of a coefficient, with its sign or as an escape; and EOB. Assumes nothing.
use mathlib.Core.Path.{◌≡◌, refl, sym, ap, ◌∙◌}
use mathlib.Core.Bool.{Bool, true, false}
use mathlib.Core.List.{List, ◌++◌}
use Prim.Native.Nat.{ℕ, ◌+◌, ◌*◌, ◌/◌, ◌%◌, ◌^◌, ◌<◌, ◌≤◌}
use native.Mathlib.Omega.{arith}
use borrow.Author.Tests.{lt-ltb, le-ltb, ne_eqb}
use lib.Dec.{T, eqb, ltb}
use Rattle.laws.specs.Choice.{pick, both, either, opposite}
use Rattle.laws.proofs.Choice.{either_right, true-false, opposite_no, second_no}
use Rattle.laws.specs.Table.{all_b}
use Rattle.laws.proofs.Table.{all_at}
use Rattle.bits.specs.Bits.{bits_of}
use Rattle.bits.specs.Code.{Entry, word_in, word_of, has_in, has}
use Rattle.bits.specs.Codewords.{codeword_of, Writes}
use Rattle.bits.proofs.Numbers.{bits_of-append}
use Rattle.bits.proofs.Codewords.{writes, writes_bit, Spells, with_word, without_word}
use Rattle.layout.specs.Value.{coefficient}
use Rattle.layout.specs.Numbers.{code_sign, code_size}
use Rattle.layout.specs.Sendable.{Sendable}
use Rattle.layout.proofs.Codes.{size_some, sign_small}
use Rattle.h261_words.specs.Tables.{pair, end_of_block, escape, pairs, first_table5, later_table5, table_of}
use Rattle.h261_words.specs.Words.{tcoeff_of}

-- ---- a coefficient
-- no pair of a run above 26
none_past : List Entry → Bool
none_past table = all_b 1024 (λ m. either (ltb m 432) (either (eqb (m % 16) 0) (opposite (has_in table m))))

none-past : (first : Bool) → T (none_past (table_of first).entries)
unfolding none_past pairs first_table5 later_table5 has_in
none-past true = tt
none-past false = tt

past : (first : Bool) (m : ℕ) → 432 ≤ m → m < 1024 → (m % 16 ≡ 0 → ⊥) → has (table_of first) m ≡ false
unfolding none_past
past first m l h n =
    opposite_no _
    (either_right (eqb (m % 16) 0) _ (ne_eqb (m % 16) 0 n)
    (either_right (ltb m 432) _ (le-ltb m 432 l) (all_at 1024 (λ m. either (ltb m 432) (either (eqb (m % 16) 0) (opposite (has (table_of first) m)))) (none-past first) m h)))

-- apart from (0, 1) and EOB the two tables are the same
module _ (m : ℕ) (n0 : m ≡ 0 → ⊥) (n1 : m ≡ 1 → ⊥) where
  m1 : eqb 1 m ≡ false
  m1 = ne_eqb 1 m (λ e. n1 (sym e))

  m0 : eqb 0 m ≡ false
  m0 = ne_eqb 0 m (λ e. n0 (sym e))

  pub same_word : (first : Bool) → word_of (table_of first) m ≡ word_in pairs m
  unfolding first_table5 later_table5 word_in
  same_word true = rw m1
  same_word false = rw (m1, m0)

  pub same_has : (first : Bool) → has (table_of first) m ≡ has_in pairs m
  unfolding first_table5 later_table5 has_in
  same_has true = rw m1
  same_has false = rw (m1, m0)

one_word : (first : Bool) → word_of (table_of first) 1 ≡ pick first (bits_of 1 1) (bits_of 2 3)
unfolding first_table5 later_table5 word_in
one_word true = refl
one_word false = refl

one_has : (first : Bool) → has (table_of first) 1 ≡ true
unfolding first_table5 later_table5 has_in
one_has true = refl
one_has false = refl

escape_word : (first : Bool) → word_of (table_of first) escape ≡ bits_of 6 1
unfolding pairs first_table5 later_table5 word_in
escape_word true = refl
escape_word false = refl

-- the level and the sign of the code, as the code has them
module _ (first : Bool) (run code lv n : ℕ) (g : Sendable (coefficient run code)) (el : lv ≡ code_size code) (en : n ≡ code_sign code) where
  -- ---- as an escape
  escape-writes : Writes (word_of (table_of first) escape ++ (bits_of 6 run ++ bits_of 8 code)) (codeword_of 20 (16384 + run * 256 + code))
  escape-writes =
      let e : bits_of 6 run ++ bits_of 8 code ≡ bits_of 14 (run * 256 + code) = bits_of-append 6 8 run code g.byte in
      let l : run * 256 + code < 2 ^ 14 = omega (arith, g.run, g.byte) in
      let f : bits_of 6 1 ++ bits_of 14 (run * 256 + code) ≡ bits_of 20 (1 * 2 ^ 14 + (run * 256 + code)) = bits_of-append 6 14 1 (run * 256 + code) l in
      let n : 16384 + run * 256 + code ≡ 1 * 2 ^ 14 + (run * 256 + code) = omega arith in
      writes _ 20 (16384 + run * 256 + code) (ap (bits_of 20) n ∙ sym f ∙ (λ i. sym (escape_word first) i ++ sym e i)) (omega arith) (omega arith) (omega (arith, g.run, g.byte))

  escape_where : both (ltb (code_size code) 16) (has (table_of first) (pair run (code_size code))) ≡ false
      → Writes (tcoeff_of (table_of first) (coefficient run code)) (codeword_of 20 (16384 + run * 256 + code))
  unfolding tcoeff_of
  escape_where e = rw e escape-writes

  pub escape_large : 16 ≤ lv → Writes (tcoeff_of (table_of first) (coefficient run code)) (codeword_of 20 (16384 + run * 256 + code))
  escape_large l = escape_where (rw (le-ltb (code_size code) 16 (rw el at l)))

  without : has (table_of first) (pair run lv) ≡ false → both (ltb (code_size code) 16) (has (table_of first) (pair run (code_size code))) ≡ false
  without e = rw (← el, e) (second_no (ltb lv 16) false refl)

  level_some : 1 ≤ lv
  level_some = rw el (size_some code g.byte g.level)

  pub escape_far : lv < 16 → 27 ≤ run → Writes (tcoeff_of (table_of first) (coefficient run code)) (codeword_of 20 (16384 + run * 256 + code))
  escape_far l r = escape_where (without (past first (pair run lv) (omega arith) (omega (arith, g.run)) (λ z. omega (arith, level_some))))

  -- ---- as a pair
  module _ (l : lv < 16) where
    pair-some : pair run lv ≡ 0 → ⊥
    pair-some z = omega (arith, level_some)

    pub escape-none : (e k : ℕ) → Spells pairs (pair run lv) e → (pair run lv ≡ 1 → ⊥) → k ≡ e % 32 → k ≡ 0
        → Writes (tcoeff_of (table_of first) (coefficient run code)) (codeword_of 20 (16384 + run * 256 + code))
    escape-none e k s o ek z = escape_where (without (same_has (pair run lv) pair-some o first ∙ without_word s (sym ek ∙ z)))

    pair_where : (k x : ℕ) → has (table_of first) (pair run lv) ≡ true → bits_of k x ≡ word_of (table_of first) (pair run lv) → k ≤ 16 → x < 2 ^ k
        → Writes (tcoeff_of (table_of first) (coefficient run code)) (codeword_of (k + 1) (x * 2 + n))
    unfolding tcoeff_of
    pair_where k x h e a b =
        let q : both (ltb (code_size code) 16) (has (table_of first) (pair run (code_size code))) ≡ true = rw (← el, lt-ltb lv 16 l, h) in
        rw (q, ← el, ← en) (writes_bit (word_of (table_of first) (pair run lv)) k x n e (omega arith) b (rw en (sign_small code)))

    pub pair-writes : (e k x : ℕ) → Spells pairs (pair run lv) e → (pair run lv ≡ 1 → ⊥) → k ≡ e % 32 → x ≡ e / 32 → (k ≡ 0 → ⊥)
        → Writes (tcoeff_of (table_of first) (coefficient run code)) (codeword_of (k + 1) (x * 2 + n))
    pair-writes e k x s o ek ex z =
        pair_where k x (same_has (pair run lv) pair-some o first ∙ with_word s (λ y. z (ek ∙ y))) (rw (ek, ex) s.is ∙ sym (same_word (pair run lv) pair-some o first)) (rw ek s.short)
        (rw (ek, ex) s.small)

-- (0, 1), "11s", and "1s" for the first coefficient of a block that is not INTRA
module _ (run code lv n : ℕ) (g : Sendable (coefficient run code)) (el : lv ≡ code_size code) (en : n ≡ code_sign code) (l : lv < 16) (z : pair run lv ≡ 1) where
  pub one_first : (first : Bool) → first ≡ true → Writes (tcoeff_of (table_of first) (coefficient run code)) (codeword_of 2 (2 + n))
  one_first true e = pair_where true run code lv n g el en l 1 1 (ap (has (table_of true)) z ∙ one_has true) (sym (ap (word_of (table_of true)) z ∙ one_word true)) (omega arith) (omega arith)
  one_first false e = absurd (true-false (sym e))

  pub one_later : (first : Bool) → first ≡ false → Writes (tcoeff_of (table_of first) (coefficient run code)) (codeword_of 3 (6 + n))
  one_later true e = absurd (true-false e)
  one_later false e = pair_where false run code lv n g el en l 2 3 (ap (has (table_of false)) z ∙ one_has false) (sym (ap (word_of (table_of false)) z ∙ one_word false)) (omega arith) (omega arith)

pub end_writes : Writes (word_of later_table5 end_of_block) (codeword_of 2 2)
unfolding later_table5 word_in
end_writes = writes (word_of later_table5 end_of_block) 2 2 refl (omega arith) (omega arith) (omega arith)
