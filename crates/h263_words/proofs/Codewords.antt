-- The codeword of an event, with its sign or as an escape. Assumes nothing.
use mathlib.Core.Path.{◌≡◌, refl, sym, ap, ◌∙◌}
use mathlib.Core.Bool.{Bool, true, false}
use mathlib.Core.List.{◌++◌}
use Prim.Native.Nat.{ℕ, ◌+◌, ◌*◌, ◌/◌, ◌%◌, ◌^◌, ◌<◌, ◌≤◌}
use native.Mathlib.Omega.{arith}
use borrow.Author.Tests.{lt-ltb, le-ltb}
use lib.Dec.{T, ltb, leb→le}
use Rattle.laws.specs.Choice.{both}
use Rattle.laws.proofs.Choice.{second_no}
use Rattle.bits.specs.Bits.{bits_of}
use Rattle.bits.specs.Code.{word_in, word_of, has}
use Rattle.bits.specs.Codewords.{codeword_of, Writes}
use Rattle.bits.proofs.Codes.{each}
use Rattle.bits.proofs.Codewords.{writes, writes_bit, Spells, with_word, without_word, has_meant}
use Rattle.bits.proofs.Numbers.{bits_of-append}
use Rattle.layout.specs.Value.{coefficient}
use Rattle.layout.specs.Numbers.{code_sign, code_size}
use Rattle.layout.specs.Sendable.{Sendable}
use Rattle.layout.proofs.Codes.{sign_small}
use Rattle.h263_words.specs.Tables.{mcbpc_intra, mcbpc_inter, mcbpc_of, event, escape, tcoef}
use Rattle.h263_words.specs.Words.{tcoef_of}
use Rattle.h263_words.proofs.Meanings.{mcbpc_free}

-- a meaning of MCBPC that has a codeword is at most stuffing
kinds_low : (intra : Bool) → T (each (λ m. ltb m 25) (mcbpc_of intra).entries)
unfolding mcbpc_intra mcbpc_inter
kinds_low true = tt
kinds_low false = tt

pub kind_low : (intra : Bool) (m : ℕ) → T (has (mcbpc_of intra) m) → m < 25
kind_low intra m h = leb→le _ _ (has_meant (λ m. ltb m 25) (mcbpc_of intra) (kinds_low intra) (mcbpc_free intra) m h)

escape_word : word_of tcoef escape ≡ bits_of 7 3
unfolding tcoef word_in
escape_word = refl

-- the level and the sign of the code, as the code has them
module _ (last run code lv n : ℕ) (one : last ≤ 1) (g : Sendable (coefficient run code)) (el : lv ≡ code_size code) (en : n ≡ code_sign code) where
  -- ---- as an escape
  escape-writes : Writes (word_of tcoef escape ++ (bits_of 1 last ++ (bits_of 6 run ++ bits_of 8 code))) (codeword_of 22 (98304 + last * 16384 + run * 256 + code))
  escape-writes =
      let e : bits_of 6 run ++ bits_of 8 code ≡ bits_of 14 (run * 256 + code) = bits_of-append 6 8 run code g.byte in
      let l : run * 256 + code < 2 ^ 14 = omega (arith, g.run, g.byte) in
      let d : bits_of 1 last ++ bits_of 14 (run * 256 + code) ≡ bits_of 15 (last * 2 ^ 14 + (run * 256 + code)) = bits_of-append 1 14 last (run * 256 + code) l in
      let h : last * 2 ^ 14 + (run * 256 + code) < 2 ^ 15 = omega arith in
      let f : bits_of 7 3 ++ bits_of 15 (last * 2 ^ 14 + (run * 256 + code)) ≡ bits_of 22 (3 * 2 ^ 15 + (last * 2 ^ 14 + (run * 256 + code))) = bits_of-append 7 15 3 (last * 2 ^ 14 + (run * 256 + code)) h in
      let q : 98304 + last * 16384 + run * 256 + code ≡ 3 * 2 ^ 15 + (last * 2 ^ 14 + (run * 256 + code)) = omega arith in
      let w : word_of tcoef escape ++ (bits_of 1 last ++ (bits_of 6 run ++ bits_of 8 code)) ≡ bits_of 22 (98304 + last * 16384 + run * 256 + code) = rw (escape_word, e, d) (f ∙ ap (bits_of 22) (sym q)) in
      writes _ 22 (98304 + last * 16384 + run * 256 + code) (sym w) (omega arith) (omega arith) (omega (arith, g.run, g.byte))

  escape_where : both (ltb (code_size code) 16) (has tcoef (event last run (code_size code))) ≡ false
      → Writes (tcoef_of last (coefficient run code)) (codeword_of 22 (98304 + last * 16384 + run * 256 + code))
  unfolding tcoef_of
  escape_where e = rw e escape-writes

  pub escape_large : 16 ≤ lv → Writes (tcoef_of last (coefficient run code)) (codeword_of 22 (98304 + last * 16384 + run * 256 + code))
  escape_large l = escape_where (rw (le-ltb (code_size code) 16 (rw el at l)))

  -- ---- by the entry e of the event
  module _ (l : lv < 16) (e k : ℕ) (s : Spells tcoef.entries (event last run lv) e) (ek : k ≡ e % 32) where
    pub escape-none : k ≡ 0 → Writes (tcoef_of last (coefficient run code)) (codeword_of 22 (98304 + last * 16384 + run * 256 + code))
    escape-none z = escape_where (rw (← el, without_word s (sym ek ∙ z)) (second_no (ltb lv 16) false refl))

    pub event-writes : (x : ℕ) → x ≡ e / 32 → (k ≡ 0 → ⊥) → Writes (tcoef_of last (coefficient run code)) (codeword_of (k + 1) (x * 2 + n))
    unfolding tcoef_of
    event-writes x ex z =
        let h : has tcoef (event last run lv) ≡ true = with_word s (λ y. z (ek ∙ y)) in
        let q : both (ltb (code_size code) 16) (has tcoef (event last run (code_size code))) ≡ true = rw (← el, lt-ltb lv 16 l, h) in
        let short : k ≤ 23 = omega (arith, s.short) in
        rw (q, ← el, ← en) (writes_bit (word_of tcoef (event last run lv)) k x n (rw (ek, ex) s.is) short (rw (ek, ex) s.small) (rw en (sign_small code)))
