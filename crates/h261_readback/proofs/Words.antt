-- Codewords are read back, each table's by its law (Back.antt of words), and have a bit at least. Assumes nothing.
use mathlib.Core.List.{List, ◌++◌}
use mathlib.Core.Bool.{Bool, true, false}
use Prim.Native.Nat.{ℕ, ◌≤◌}
use native.Mathlib.Omega.{arith}
use lib.Dec.{ltb}
use lib.ListN.{length, length-append}
use Rattle.laws.specs.Choice.{pick, both}
use Rattle.bits.specs.Bits.{Bit, bits_of}
use Rattle.bits.specs.Code.{CodeTable, word, word_of, has}
use Rattle.bits.proofs.Fields.{length-bits_of}
use Rattle.bits.proofs.ReadBack.{Back, length_word}
use Rattle.h261_words.specs.Tables.{table1, table2, table3, table4, first_table5, later_table5, pair, end_of_block, escape}
use Rattle.layout.specs.Value.{Coefficient}
use Rattle.h261_words.specs.Words.{sent, over, coefficient_read, tcoeff_of}
use Rattle.layout.specs.Numbers.{code_sign, code_size}
use Rattle.layout.specs.Sendable.{Sendable}
use Rattle.h261_words.proofs.Back.{has_mba, mba_back, mtype_back, mvd_back, cbp_back, first_back, later_back, end_back}

module _ (m : ℕ) (rest : List Bit) where
  pub back_mba : 1 ≤ m → m ≤ 35 → Back (word table1) (word_of table1 m) rest m
  back_mba l h = record { reads = λ at. mba_back m rest at l h }

  pub back_mtype : 1 ≤ m → m ≤ 10 → Back (word table2) (word_of table2 m) rest m
  back_mtype l h = record { reads = λ at. mtype_back m rest at l h }

  pub back_mvd : m ≤ 31 → Back (word table3) (word_of table3 m) rest m
  back_mvd h = record { reads = λ at. mvd_back m rest at h }

  pub back_cbp : 1 ≤ m → m ≤ 63 → Back (word table4) (word_of table4 m) rest m
  back_cbp l h = record { reads = λ at. cbp_back m rest at l h }

module _ (c : Coefficient) (rest : List Bit) (g : Sendable c) where
  pub back_first : Back (coefficient_read first_table5) (tcoeff_of first_table5 c) rest (sent c)
  back_first = record { reads = λ at. first_back c rest at g }

  pub back_later : Back (coefficient_read later_table5) (tcoeff_of later_table5 c) rest (sent c)
  back_later = record { reads = λ at. later_back c rest at g }

pub back_over : (rest : List Bit) → Back (coefficient_read later_table5) (word_of later_table5 end_of_block) rest over
back_over rest = record { reads = λ at. end_back rest at }

-- ---- lengths
pub length_mba : (m : ℕ) → 1 ≤ m → m ≤ 35 → 1 ≤ length (word_of table1 m)
unfolding table1
length_mba m l h = length_word table1 m tt tt (has_mba m l h)

pub length_coefficient : (table : CodeTable) (c : Coefficient) → 1 ≤ length (tcoeff_of table c)
unfolding tcoeff_of
length_coefficient table c = go (both (ltb (code_size c.code) 16) (has table (pair c.run (code_size c.code))))
  where
    in_table : List Bit
    in_table = word_of table (pair c.run (code_size c.code))

    s : List Bit
    s = bits_of 1 (code_sign c.code)

    level : List Bit
    level = bits_of 6 c.run ++ bits_of 8 c.code

    go : (b : Bool) → 1 ≤ length (pick b (in_table ++ s) (word_of table escape ++ level))
    go true = omega (arith, length-append in_table s, length-bits_of 1 (code_sign c.code))
    go false =
        omega (arith, length-append (word_of table escape) level, length-append (bits_of 6 c.run) (bits_of 8 c.code), length-bits_of 8 c.code)
