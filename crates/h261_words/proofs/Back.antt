-- Every codeword that is written for a meaning is read back as that meaning. Assumes nothing.
use mathlib.Core.Path.{◌≡◌, refl, ap, ◌∙◌}
use mathlib.Core.Bool.{Bool, true, false}
use mathlib.Core.List.{List, ◌++◌, append_assoc}
use Prim.Native.Nat.{ℕ, ◌+◌, ◌/◌, ◌%◌, ◌≤◌}
use native.Mathlib.Omega.{arith}
use borrow.Author.Tests.{ltb-true}
use lib.Dec.{T, ltb}
use lib.ListN.{length, length-append}
use Rattle.laws.specs.Choice.{pick, both}
use Rattle.laws.proofs.Choice.{both_left, both_right, true-T, T_true}
use Rattle.bits.specs.Bits.{Bit, bits_of}
use Rattle.bits.specs.Places.{plain}
use Rattle.bits.specs.Read.{got, settle}
use Rattle.bits.specs.Code.{CodeTable, word, word_of, has_in, has}
use Rattle.bits.proofs.Codes.{free, word_back}
use Rattle.bits.proofs.Codewords.{has-each}
use Rattle.bits.proofs.Fields.{field_back, length-bits_of}
use Rattle.h261_words.specs.Tables.{table1, table2, table3, table4, pair, end_of_block, escape, pairs, first_table5, later_table5}
use Rattle.layout.specs.Value.{Coefficient, coefficient}
use Rattle.h261_words.specs.Words.{sent, over, allowed, coefficient_read, tcoeff_of}
use Rattle.layout.specs.Numbers.{signed_code, code_sign, code_size}
use Rattle.layout.proofs.Codes.{size_some, sign_small, sign_back}
use Rattle.h261_words.proofs.Coefficients.{end_read, escape_read, pair_read, settle-allowed}
use Rattle.layout.specs.Sendable.{Sendable}

-- no codeword of a table is a beginning of another
free1 : T (free table1.entries)
unfolding table1
free1 = tt

free2 : T (free table2.entries)
unfolding table2
free2 = tt

free3 : T (free table3.entries)
unfolding table3
free3 = tt

free4 : T (free table4.entries)
unfolding table4
free4 = tt

free_later : T (free later_table5.entries)
unfolding pairs later_table5
free_later = tt

has_end : T (has later_table5 end_of_block)
unfolding pairs later_table5 has_in
has_end = tt

-- ---- the meanings
pub has_mba : (m : ℕ) → 1 ≤ m → m ≤ 35 → T (has table1 m)
unfolding table1 has_in
has_mba m l h = has-each table1.entries 1 35 tt m l h

pub has_mtype : (m : ℕ) → 1 ≤ m → m ≤ 10 → T (has table2 m)
unfolding table2 has_in
has_mtype m l h = has-each table2.entries 1 10 tt m l h

pub has-mvd : (m : ℕ) → m ≤ 31 → T (has table3 m)
unfolding table3 has_in
has-mvd m h = has-each table3.entries 0 31 tt m (omega arith) h

pub has_cbp : (m : ℕ) → 1 ≤ m → m ≤ 63 → T (has table4 m)
unfolding table4 has_in
has_cbp m l h = has-each table4.entries 1 63 tt m l h

-- ---- Tables 1 to 4
pub mba_back : (m : ℕ) (rest : List Bit) (at : ℕ) → 1 ≤ m → m ≤ 35 → word {P = plain} table1 (word_of table1 m ++ rest) at ≡ got m rest (at + length (word_of table1 m))
mba_back m rest at l h = word_back table1 m rest at free1 (has_mba m l h)

pub mtype_back : (m : ℕ) (rest : List Bit) (at : ℕ) → 1 ≤ m → m ≤ 10 → word {P = plain} table2 (word_of table2 m ++ rest) at ≡ got m rest (at + length (word_of table2 m))
mtype_back m rest at l h = word_back table2 m rest at free2 (has_mtype m l h)

pub mvd_back : (m : ℕ) (rest : List Bit) (at : ℕ) → m ≤ 31 → word {P = plain} table3 (word_of table3 m ++ rest) at ≡ got m rest (at + length (word_of table3 m))
mvd_back m rest at h = word_back table3 m rest at free3 (has-mvd m h)

pub cbp_back : (m : ℕ) (rest : List Bit) (at : ℕ) → 1 ≤ m → m ≤ 63 → word {P = plain} table4 (word_of table4 m ++ rest) at ≡ got m rest (at + length (word_of table4 m))
cbp_back m rest at l h = word_back table4 m rest at free4 (has_cbp m l h)

-- ---- Table 5
module _ (table : CodeTable) (ok : T (free table.entries)) (esc : T (has table escape)) (c : Coefficient) (g : Sendable c) (rest : List Bit) (at : ℕ) where
  m : ℕ
  m = pair c.run (code_size c.code)

  pair_back : ltb (code_size c.code) 16 ≡ true → T (has table m)
      → coefficient_read {P = plain} table ((word_of table m ++ bits_of 1 (code_sign c.code)) ++ rest) at ≡ got (sent c) rest (at + length (word_of table m ++ bits_of 1 (code_sign c.code)))
  unfolding m
  pair_back l h =
      let some = size_some c.code g.byte g.level in
      let less = ltb-true (code_size c.code) 16 l in
      let w = word_of table m in
      let s = bits_of 1 (code_sign c.code) in
      let n0 : m ≡ end_of_block → ⊥ = λ e. omega arith in
      let n5 : m ≡ escape → ⊥ = λ e. omega arith in
      let run : m / 16 ≡ c.run = omega arith in
      let lev : m % 16 ≡ code_size c.code = omega arith in
      let e = word_back table m (s ++ rest) at ok h in
      let f = field_back 1 (code_sign c.code) rest (at + length w) (sign_small c.code) in
      let p : at + length w + 1 ≡ at + length (w ++ s) = omega (arith, length-append w s, length-bits_of 1 (code_sign c.code)) in
      let k : signed_code (code_sign c.code) (m % 16) ≡ c.code = ap (signed_code (code_sign c.code)) lev ∙ sign_back c.code g.byte in
      rw (append_assoc w s rest)
      (pair_read table (w ++ (s ++ rest)) at m (s ++ rest) (at + length w) e n0 n5 (code_sign c.code) rest (at + length w + 1) f
      ∙ (λ i. settle at (allowed (sent (coefficient (run i) (k i)))) rest (p i))
      ∙ settle-allowed at c.run c.code rest (at + length (w ++ s)) g.level)

  escape_back : coefficient_read {P = plain} table ((word_of table escape ++ (bits_of 6 c.run ++ bits_of 8 c.code)) ++ rest) at
      ≡ got (sent c) rest (at + length (word_of table escape ++ (bits_of 6 c.run ++ bits_of 8 c.code)))
  escape_back =
      let w = word_of table escape in
      let r = bits_of 6 c.run in
      let l = bits_of 8 c.code in
      let n0 : escape ≡ end_of_block → ⊥ = λ e. omega arith in
      let e = word_back table escape (r ++ (l ++ rest)) at ok esc in
      let f = field_back 6 c.run (l ++ rest) (at + length w) (omega (arith, g.run)) in
      let h = field_back 8 c.code rest (at + length w + 6) g.byte in
      let p : at + length w + 6 + 8 ≡ at + length (w ++ (r ++ l)) =
      omega (arith, length-append w (r ++ l), length-append r l, length-bits_of 6 c.run, length-bits_of 8 c.code) in
      rw (append_assoc w (r ++ l) rest, append_assoc r l rest)
      (escape_read table (w ++ (r ++ (l ++ rest))) at escape _ _ e n0 refl c.run (l ++ rest) (at + length w + 6) c.code rest (at + length w + 6 + 8) f h
      ∙ ap (settle at (allowed (sent c)) rest) p
      ∙ settle-allowed at c.run c.code rest (at + length (w ++ (r ++ l))) g.level)

  coefficient_back : coefficient_read {P = plain} table (tcoeff_of table c ++ rest) at ≡ got (sent c) rest (at + length (tcoeff_of table c))
  unfolding tcoeff_of m
  coefficient_back = go (both (ltb (code_size c.code) 16) (has table m)) refl
    where
      A : List Bit
      A = word_of table m ++ bits_of 1 (code_sign c.code)

      B : List Bit
      B = word_of table escape ++ (bits_of 6 c.run ++ bits_of 8 c.code)

      go : (b : Bool) → both (ltb (code_size c.code) 16) (has table m) ≡ b → coefficient_read {P = plain} table (pick b A B ++ rest) at ≡ got (sent c) rest (at + length (pick b A B))
      go true e =
          let t = true-T (both (ltb (code_size c.code) 16) (has table m)) e in
          pair_back (T_true _ (both_left (ltb (code_size c.code) 16) (has table m) t)) (both_right (ltb (code_size c.code) 16) (has table m) t)
      go false e = escape_back

pub first_back : (c : Coefficient) (rest : List Bit) (at : ℕ) → Sendable c
    → coefficient_read {P = plain} first_table5 (tcoeff_of first_table5 c ++ rest) at ≡ got (sent c) rest (at + length (tcoeff_of first_table5 c))
unfolding pairs first_table5 has_in
first_back c rest at g = coefficient_back first_table5 tt tt c g rest at

pub later_back : (c : Coefficient) (rest : List Bit) (at : ℕ) → Sendable c
    → coefficient_read {P = plain} later_table5 (tcoeff_of later_table5 c ++ rest) at ≡ got (sent c) rest (at + length (tcoeff_of later_table5 c))
unfolding pairs later_table5 has_in
later_back c rest at g = coefficient_back later_table5 tt tt c g rest at

pub end_back : (rest : List Bit) (at : ℕ) → coefficient_read {P = plain} later_table5 (word_of later_table5 end_of_block ++ rest) at ≡ got over rest (at + length (word_of later_table5 end_of_block))
end_back rest at = end_read later_table5 (word_of later_table5 end_of_block ++ rest) at end_of_block rest _ (word_back later_table5 end_of_block rest at free_later has_end) refl
