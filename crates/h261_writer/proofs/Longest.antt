-- How long what is written can be, layer by layer: no picture has more bits than can be counted. Assumes nothing.
use mathlib.Core.Bool.{Bool, true, false}
use mathlib.Core.List.{List, [], ◌∷◌, ◌++◌}
use Prim.Native.Nat.{ℕ, zero, suc, ◌+◌, ◌-◌, ◌*◌, ◌%◌, ◌≤◌}
use native.Mathlib.Nat.{min-le_left}
use native.Mathlib.Omega.{arith}
use lib.Dec.{T, ltb}
use lib.ListN.{length, get_or, take, drop, length-append, length-take}
use lib.IntN.{ℤ, pos, nat_abs, ◌+ℤ◌, ◌-ℤ◌}
use Rattle.laws.specs.Choice.{both}
use Rattle.bits.specs.Bits.{bits_of}
use Rattle.bits.specs.Code.{CodeTable, word_of, has}
use Rattle.bits.specs.Appended.{CountablePlace}
use Rattle.bits.proofs.Fields.{length-bits_of}
use Rattle.bits.proofs.Short.{pick_short, if_short, short_words, word-short}
use Rattle.layout.proofs.Gathered.{gather_short}
use Rattle.h261_words.specs.Tables.{pair, table1, table2, table3, table4, end_of_block, escape, pairs, first_table5, later_table5}
use Rattle.h261_words.specs.Words.{is_intra, is_mc, has_mquant, has_cbp, tcoeff_of}
use Rattle.layout.specs.Numbers.{code_sign, code_size}
use Rattle.h261_groups.specs.Format.{group_numbers}
use Rattle.h261_groups.specs.declared.Format.{Format}
use Rattle.h261_groups.proofs.Room.{groups_most, groups_listed}
use Rattle.layout.specs.Value.{Coefficient, Vector, Block, Macroblock}
use Rattle.layout.specs.Flat.{Flat, gather, gathers, macroblock_in, macroblocks_in, groups_in}
use Rattle.h261_description.specs.Vector.{Before, preceding, at_start}
use Rattle.h261_description.specs.Value.{picture_in, before_next}
use Rattle.bits.specs.Write.{bits_if}
use Rattle.layout.specs.Pattern.{pattern_of}
use Rattle.h261_writer.specs.Write.{coefficients_of, block_of, blocks_of, component_bits, vector_bits, macroblock_of, macroblocks_of, group_of, groups_of, picture_of, picture_bits}
use Rattle.h261_writer.specs.Sound.{group_in}

-- ---- each table's codewords are short
short₁ : T (short_words table1.entries)
unfolding short_words table1
short₁ = tt

short₂ : T (short_words table2.entries)
unfolding short_words table2
short₂ = tt

short₃ : T (short_words table3.entries)
unfolding short_words table3
short₃ = tt

short₄ : T (short_words table4.entries)
unfolding short_words table4
short₄ = tt

first_short : T (short_words first_table5.entries)
unfolding short_words pairs first_table5
first_short = tt

later_short : T (short_words later_table5.entries)
unfolding short_words pairs later_table5
later_short = tt

-- ---- a coefficient up to 30, an escape's longest
coefficient_short : (table : CodeTable) (c : Coefficient) → T (short_words table.entries) → length (tcoeff_of table c) ≤ 30
unfolding tcoeff_of
coefficient_short table c t =
    let w = word_of table (pair c.run (code_size c.code)) in
    let v = word_of table escape in
    pick_short (both (ltb (code_size c.code) 16) (has table (pair c.run (code_size c.code)))) (w ++ bits_of 1 (code_sign c.code)) (v ++ (bits_of 6 c.run ++ bits_of 8 c.code)) 30
    (omega (arith, length-append w (bits_of 1 (code_sign c.code)), word-short table (pair c.run (code_size c.code)) t))
    (omega (arith, length-append v (bits_of 6 c.run ++ bits_of 8 c.code), length-append (bits_of 6 c.run) (bits_of 8 c.code), word-short table escape t))

coefficients_short : (cs : Block) → length (coefficients_of cs) ≤ 30 * length cs + 16
unfolding coefficients_of
coefficients_short [] = word-short later_table5 end_of_block later_short
coefficients_short (c ∷ cs) = omega (arith, length-append (tcoeff_of later_table5 c) (coefficients_of cs), coefficient_short later_table5 c later_short, coefficients_short cs)

block_short : (intra : Bool) (b : Block) → length (block_of intra b) ≤ 30 * length b + 16
block_short intra [] = omega arith
block_short true (c ∷ cs) = omega (arith, length-append (bits_of 8 c.code) (coefficients_of cs), length-bits_of 8 c.code, coefficients_short cs)
block_short false (c ∷ cs) = omega (arith, length-append (tcoeff_of first_table5 c) (coefficients_of cs), coefficient_short first_table5 c first_short, coefficients_short cs)

blocks_short : (intra : Bool) (n : ℕ) (l : List ℕ) → length (blocks_of intra (gathers n l)) ≤ n * 1936
unfolding blocks_of gathers
blocks_short intra zero l = omega arith
blocks_short intra (suc n) l =
    let b = gather 0 (take 64 l) in
    let k : length (take 64 l) ≤ 64 = rw (length-take 64 l) (min-le_left 64 (length l)) in
    omega (arith, length-append (block_of intra b) (blocks_of intra (gathers n (drop 64 l))), block_short intra b, gather_short 0 (take 64 l), blocks_short intra n (drop 64 l))

component_short : (p z : ℤ) → length (component_bits p z) ≤ 16
component_short p z = word-short table3 (nat_abs ((z -ℤ p) +ℤ pos 48) % 32) short₃

vector_short : (p v : Vector) → length (vector_bits p v) ≤ 32
vector_short p v =
    let x = component_bits p.horizontal v.horizontal in
    let y = component_bits p.vertical v.vertical in
    omega (arith, length-append x y, component_short p.horizontal v.horizontal, component_short p.vertical v.vertical)

macroblock_short : (before : Before) (address : ℕ) (fields levels : List ℕ) → length (macroblock_of before (macroblock_in address fields levels)) ≤ 11704
unfolding macroblock_of
macroblock_short before address fields levels =
    let type = get_or fields 0 0 in
    let m = macroblock_in address fields levels in
    let v = vector_bits (preceding before (address - before.address)) m.vector in
    let w = word_of table4 (pattern_of (gathers 6 levels)) in
    let f = blocks_of (is_intra type) (gathers 6 levels) in
    let e = bits_if (has_cbp type) w in
    let d = bits_if (is_mc type) v in
    let c = bits_if (has_mquant type) (bits_of 5 m.quant) in
    let b = word_of table2 type in
    let a = word_of table1 (address - before.address) in
    omega (
      arith,
      length-append a (b ++ (c ++ (d ++ (e ++ f)))),
      length-append b (c ++ (d ++ (e ++ f))),
      length-append c (d ++ (e ++ f)),
      length-append d (e ++ f),
      length-append e f,
      word-short table1 (address - before.address) short₁,
      word-short table2 type short₂,
      if_short (has_mquant type) (bits_of 5 m.quant),
      length-bits_of 5 m.quant,
      if_short (is_mc type) v,
      vector_short (preceding before (address - before.address)) m.vector,
      if_short (has_cbp type) w,
      word-short table4 (pattern_of (gathers 6 levels)) short₄,
      blocks_short (is_intra type) 6 levels,
    )

-- a macroblock that isn't sent has none
macroblocks_short : (before : Before) (n address : ℕ) (fields levels : List ℕ) → length (macroblocks_of before (macroblocks_in n address fields levels)) ≤ n * 11704
unfolding macroblocks_of macroblocks_in
macroblocks_short before zero address fields levels = omega arith
macroblocks_short before (suc n) address fields levels =
    let m = macroblock_in address fields levels in
    first_sent before (get_or fields 0 0) m (macroblocks_in n (address + 1) (drop 4 fields) (drop 384 levels)) n (macroblock_short before address fields levels) (macroblocks_short before n (address + 1) (drop 4 fields) (drop 384 levels))
    (macroblocks_short (before_next m) n (address + 1) (drop 4 fields) (drop 384 levels))
  where
    first_sent : (before : Before) (type : ℕ) (m : Macroblock) (rest : List Macroblock) (n : ℕ) → length (macroblock_of before m) ≤ 11704 → length (macroblocks_of before rest) ≤ n * 11704
        → length (macroblocks_of (before_next m) rest) ≤ n * 11704 → length (macroblocks_of before (elim type as (λ k. List Macroblock) [ zero ↦ rest | suc k ↦ m ∷ rest ])) ≤ suc n * 11704
    first_sent before zero m rest n a b c = omega arith
    first_sent before (suc type) m rest n a b c = omega (arith, length-append (macroblock_of before m) (macroblocks_of (before_next m) rest))

group_short : (number q : ℕ) (fields levels : List ℕ) → length (group_of number (group_in q fields levels)) ≤ 386258
unfolding group_of
group_short number q fields levels =
    let e = macroblocks_of at_start (macroblocks_in 33 1 fields levels) in
    omega (
      arith,
      length-append (bits_of 16 1) (bits_of 4 number ++ (bits_of 5 q ++ (bits_of 1 0 ++ e))),
      length-append (bits_of 4 number) (bits_of 5 q ++ (bits_of 1 0 ++ e)),
      length-append (bits_of 5 q) (bits_of 1 0 ++ e),
      length-append (bits_of 1 0) e,
      macroblocks_short at_start 33 1 fields levels,
    )

groups_short : (numbers qs fields levels : List ℕ) → length (groups_of numbers (groups_in 33 qs fields levels)) ≤ length numbers * 386258
unfolding groups_of groups_in
groups_short [] qs fields levels = omega arith
groups_short (number ∷ numbers) [] fields levels = omega arith
groups_short (number ∷ numbers) (q ∷ qs) fields levels =
    let rest = groups_of numbers (groups_in 33 qs (drop 132 fields) (drop 12672 levels)) in
    omega (arith, length-append (group_of number (group_in q fields levels)) rest, group_short number q fields levels, groups_short numbers qs (drop 132 fields) (drop 12672 levels))

-- ---- a picture
pub picture_counts : (f : Format) (d : Flat) → CountablePlace 0 (picture_bits f d)
unfolding picture_bits picture_of picture_in
picture_counts f d =
    let p = picture_in d in
    let e = groups_of (group_numbers f) p.groups in
    record { low = omega (arith, groups_short (group_numbers f) (drop 3 d.head) d.macroblocks d.levels, groups_listed f, groups_most f) }
