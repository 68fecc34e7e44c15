-- What the array of tables holds. Its layout is the code's own affair: callers pass the fact `Tables` on, and each read's promise speaks of H.261's
-- tables alone. Every part is a test that antt computes. Assumes nothing.
use Rattle.std.specs.Prelude.{ℕ, ◌+◌, ◌^◌, ◌≤◌, ◌<◌, List, T, eqb}
use Rattle.laws.specs.Choice.{pick}
use Rattle.bits.specs.Tree.{right}
use Rattle.bits.specs.Entries.{entries_right}
use Rattle.bits.specs.Code.{CodeTable}
use Rattle.bits.specs.Settled.{TwoParts, settle_parts}
use Rattle.bits.specs.Codewords.{spelt}
use Rattle.h261_words.specs.Tables.{table1, table2, table3, table4, end_of_block, escape, pairs, first_table5, later_table5}

-- ---- where the parts begin: the trees of Tables 1 to 4
abbrev pub mba_tree : ℕ
mba_tree = 0

abbrev pub mtype_tree : ℕ
mtype_tree = 46

abbrev pub mvd_tree : ℕ
mvd_tree = 56

abbrev pub cbp_tree : ℕ
cbp_tree = 90

-- Table 5 by 13 bits whose number is small, and by the first 8 of any others: a block's first coefficient, later ones
abbrev pub small_at : ℕ
small_at = 306

abbrev pub first_at : ℕ
first_at = 434

abbrev pub later_at : ℕ
later_at = 690

-- codewords by their meanings
abbrev pub mba_words_at : ℕ
mba_words_at = 946

abbrev pub mtype_words_at : ℕ
mtype_words_at = 982

abbrev pub mvd_words_at : ℕ
mvd_words_at = 993

abbrev pub cbp_words_at : ℕ
cbp_words_at = 1025

abbrev pub pair_words_at : ℕ
pair_words_at = 1089

-- Tables 1 to 4 by their first 11, 10, 11 and 9 bits
abbrev pub mba_entries_at : ℕ
mba_entries_at = 1521

abbrev pub mtype_entries_at : ℕ
mtype_entries_at = 3569

abbrev pub mvd_entries_at : ℕ
mvd_entries_at = 4593

abbrev pub cbp_entries_at : ℕ
cbp_entries_at = 6641

-- ---- Table 5 by its first bits
-- the bits that follow a codeword of Table 5 and are one with it: a sign, or an escape's run and level
abbrev pub tail : ℕ → ℕ
tail m = pick (eqb m end_of_block) 0 (pick (eqb m escape) 14 1)

-- by 13 bits whose number is below 128, and by the first 8 of any others
abbrev pub parts_from : ℕ → TwoParts
parts_from from = record { narrow = 8; further = 5; small = 128; small_at = small_at; large_at = from }

-- ---- the fact that callers pass on
pub record Tables (t : List ℕ) : Type 0 where
  pub mba : T (right 16 t mba_tree table1.entries)
  pub mtype : T (right 16 t mtype_tree table2.entries)
  pub mvd : T (right 16 t mvd_tree table3.entries)
  pub cbp : T (right 16 t cbp_tree table4.entries)
  pub first : T (settle_parts tail first_table5.entries t (parts_from first_at))
  pub later : T (settle_parts tail later_table5.entries t (parts_from later_at))
  pub mba_words : T (spelt t mba_words_at 36 table1.entries)
  pub mtype_words : T (spelt t mtype_words_at 11 table2.entries)
  pub mvd_words : T (spelt t mvd_words_at 32 table3.entries)
  pub cbp_words : T (spelt t cbp_words_at 64 table4.entries)
  pub pair_words : T (spelt t pair_words_at 432 pairs)
  pub mba_entries : T (entries_right t mba_entries_at 11 table1.entries)
  pub mtype_entries : T (entries_right t mtype_entries_at 10 table2.entries)
  pub mvd_entries : T (entries_right t mvd_entries_at 11 table3.entries)
  pub cbp_entries : T (entries_right t cbp_entries_at 9 table4.entries)

-- ---- where a table's tree and its entries by `width` bits stand
pub record Stands (table : CodeTable) (tree from width : ℕ) : Type 0 where
  pub low : tree < 256
  pub short : width ≤ 24
  pub room : from + 2 ^ width ≤ 7153
  pub walked : (t : List ℕ) → Tables t → T (right 16 t tree table.entries)
  pub entered : (t : List ℕ) → Tables t → T (entries_right t from width table.entries)
