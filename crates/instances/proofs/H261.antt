-- H.261's descriptions whose macroblocks are all alike: each is valid, and has so many bits. Assumes nothing.
use Prim.Native.Nat.{ℕ, zero, suc, ◌+◌, ◌-◌, ◌*◌}
use mathlib.Core.Path.{◌≡◌, refl, sym, ap, ◌∙◌}
use mathlib.Core.Bool.{true, false}
use mathlib.Core.List.{List, [], ◌∷◌, ◌++◌}
use native.Mathlib.Nat.{zero-mul, suc-mul, add_comm}
use native.Mathlib.Omega.{arith}
use borrow.Author.Tests.{eq-eqb}
use lib.Dec.{T}
use lib.ListN.{length, replicate, drop, length-append}
use lib.Seq.{drop_at}
use Rattle.laws.proofs.Choice.{both_make, true-T}
use Rattle.bits.specs.Code.{word_in}
use Rattle.layout.specs.Value.{Vector, Block, Macroblock, Group}
use Rattle.layout.specs.Flat.{vector_in, gather, gathers, macroblocks_in, groups_in}
use Rattle.layout.specs.Numbers.{codes_first}
use Rattle.h261_groups.specs.declared.Format.{Format}
use Rattle.h261_groups.specs.declared.Format.TheVariants.{Qcif, Cif}
use Rattle.h261_groups.specs.Format.{group_numbers, group_count}
use Rattle.h261_words.specs.Tables.{table1, table2, pairs, later_table5}
use Rattle.h261_words.specs.Words.{tcoeff_of}
use Rattle.h261_description.specs.Value.{picture_in}
use Rattle.h261_description.specs.Vector.{Before, at_start}
use Rattle.h261_description.specs.Valid.{valid_macroblock, lengths_of, valid_head, valid}
use Rattle.h261_description.specs.Fields.{refresh}
use Rattle.h261_writer.specs.Write.{coefficients_of, blocks_of, macroblock_of, macroblocks_of, group_of, groups_of, picture_of, picture_bits}
use Rattle.coding.specs.declared.Kind.TheVariants.{H261}
use Rattle.instances.specs.Uniform.{repeated, uniform_head, uniform, unsent, intra, grey_levels, heavy_levels, still, grey, heavy}
use Rattle.instances.proofs.Repeated.{repeated_long, unrolled, grouped, ungrouped, others, every_group_lem}
use Rattle.instances.proofs.Codes.{Code, one, two, code_of}

numbers_count : (f : Format) → length (group_numbers f) ≡ group_count f
numbers_count Qcif = refl
numbers_count Cif = refl

module _ (fields levels : List ℕ) (four : length fields ≡ 4) (six : length levels ≡ 384) (type : ℕ) where
  -- ---- validity
  uniform-valid : (f : Format) → ((number address : ℕ) → T (valid_macroblock f number address fields levels)) → T (valid f (uniform (H261 f) type fields levels))
  unfolding valid uniform
  uniform-valid f h =
      both_make (lengths_of f (uniform (H261 f) type fields levels)) _ (true-T (lengths_of f (uniform (H261 f) type fields levels)) (long f))
      (both_make (valid_head f (uniform_head (H261 f) type)) _ (head f) (every_group_lem fields levels four six 33 (valid_macroblock f) h (group_numbers f) (group_count f * 33) (ap (λ (k : ℕ). k * 33) (sym (numbers_count f)))))
    where
      head : (f : Format) → T (valid_head f (uniform_head (H261 f) type))
      head Qcif = tt
      head Cif = tt

      long : (f : Format) → lengths_of f (uniform (H261 f) type fields levels) ≡ true
      long Qcif = rw (eq-eqb (length (repeated 99 fields)) 396 (repeated_long 99 4 fields four), eq-eqb (length (repeated 99 levels)) 38016 (repeated_long 99 384 levels six))
      long Cif = rw (eq-eqb (length (repeated 396 fields)) 1584 (repeated_long 396 4 fields four), eq-eqb (length (repeated 396 levels)) 152064 (repeated_long 396 384 levels six))

  -- ---- the number of bits: 32 of the picture's header, 26 of each group's, and those of its macroblocks
  group_long : (number gquant : ℕ) (ms : List Macroblock) → length (group_of number (record { gquant = gquant; macroblocks = ms })) ≡ 26 + length (macroblocks_of at_start ms)
  unfolding group_of
  group_long number gquant ms = omega arith

  module _ (bits : ℕ) (each : (more rest : List ℕ) → length (macroblocks_of at_start (macroblocks_in 33 1 (repeated 33 fields ++ more) (repeated 33 levels ++ rest))) ≡ bits) where
    groups_long : (numbers : List ℕ) (n : ℕ) → n ≡ length numbers * 33
        → length (groups_of numbers (groups_in 33 (replicate (length numbers) 1) (repeated n fields) (repeated n levels))) ≡ length numbers * (26 + bits)
    unfolding groups_of groups_in
    groups_long [] n e = sym (zero-mul (26 + bits))
    groups_long (number ∷ numbers) n e =
        let m : ℕ = length numbers * 33 in
        let q : n ≡ 33 + m = others 33 n (length numbers) e in
        let ms : List Macroblock = macroblocks_in 33 1 (repeated n fields) (repeated n levels) in
        let gs : List Group = groups_in 33 (replicate (length numbers) 1) (drop (33 * 4) (repeated n fields)) (drop (33 * 384) (repeated n levels)) in
        let first : length (macroblocks_of at_start ms) ≡ bits = (λ i. length (macroblocks_of at_start (macroblocks_in 33 1 (grouped 33 n m fields q i) (grouped 33 n m levels q i)))) ∙ each (repeated m fields) (repeated m levels) in
        let rest : length (groups_of numbers gs) ≡ length numbers * (26 + bits) =
        (λ i. length (groups_of numbers (groups_in 33 (replicate (length numbers) 1) (ungrouped 33 n m fields q 4 four i) (ungrouped 33 n m levels q 384 six i)))) ∙ groups_long numbers m refl in
        length-append (group_of number (record { gquant = 1; macroblocks = ms })) (groups_of numbers gs)
        ∙ (λ i. (group_long number 1 ms ∙ ap (λ (k : ℕ). 26 + k) first) i + rest i)
        ∙ add_comm (26 + bits) (length numbers * (26 + bits)) ∙ sym (suc-mul (length numbers) (26 + bits))

    uniform_long : (f : Format) → length (picture_bits f (uniform (H261 f) type fields levels)) ≡ 32 + group_count f * (26 + bits)
    unfolding picture_bits picture_in picture_of uniform
    uniform_long Qcif =
        let h : length (groups_of (group_numbers Qcif) (groups_in 33 (replicate 3 1) (repeated 99 fields) (repeated 99 levels))) ≡ 3 * (26 + bits) = groups_long (group_numbers Qcif) 99 refl in
        omega arith
    uniform_long Cif =
        let h : length (groups_of (group_numbers Cif) (groups_in 33 (replicate 12 1) (repeated 396 fields) (repeated 396 levels))) ≡ 12 * (26 + bits) = groups_long (group_numbers Cif) 396 refl in
        omega arith

-- ---- no macroblock
pub none_sent : (k address : ℕ) (levels more : List ℕ) → macroblocks_in k address (repeated k unsent ++ more) levels ≡ []
unfolding macroblocks_in repeated
none_sent zero address levels more = refl
none_sent (suc k) address levels more = none_sent k (address + 1) (drop 384 levels) more

-- ---- INTRA macroblocks: MBA 1 is one bit, MTYPE four
one_long : (a : ℕ) (before vector : Vector) (blocks : List Block)
    → length (macroblock_of (record { address = a; vector = before }) (record { address = a + 1; type = 1; quant = 0; vector = vector; blocks = blocks })) ≡ length (blocks_of true blocks) + 5
unfolding macroblock_of word_in table1 table2
one_long a before vector blocks = let step : a + 1 - a ≡ 1 = omega arith in rw step (omega arith)

module _ (levels : List ℕ) (six : length levels ≡ 384) (bits : ℕ) (each : (rest : List ℕ) → length (blocks_of true (gathers 6 (levels ++ rest))) ≡ bits) where
  intra_long : (k a : ℕ) (before : Vector) (more rest : List ℕ)
      → length (macroblocks_of (record { address = a; vector = before }) (macroblocks_in k (a + 1) (repeated k intra ++ more) (repeated k levels ++ rest))) ≡ k * (bits + 5)
  unfolding macroblocks_in macroblocks_of
  intra_long zero a before more rest = sym (zero-mul (bits + 5))
  intra_long (suc k) a before more rest =
      let begun : Before = record { address = a; vector = before } in
      let later : Before = record { address = a + 1; vector = vector_in intra } in
      let tail : List ℕ = repeated k levels ++ rest in
      let ms : List Macroblock = macroblocks_in k (a + 1 + 1) (repeated k intra ++ more) (drop 384 (levels ++ tail)) in
      let first : Macroblock = record { address = a + 1; type = 1; quant = 0; vector = vector_in intra; blocks = gathers 6 (levels ++ tail) } in
      let below : length (macroblocks_of later ms) ≡ k * (bits + 5) =
      ap (λ (l : List ℕ). length (macroblocks_of later (macroblocks_in k (a + 1 + 1) (repeated k intra ++ more) l))) (drop_at levels tail 384 six) ∙ intra_long k (a + 1) (vector_in intra) more rest in
      (λ i. length (macroblocks_of begun (macroblocks_in (suc k) (a + 1) (unrolled k intra more i) (unrolled k levels rest i))))
      ∙ length-append (macroblock_of begun first) (macroblocks_of later ms)
      ∙ (λ i. (one_long a before (vector_in intra) first.blocks ∙ ap (λ (n : ℕ). n + 5) (each tail)) i + below i)
      ∙ add_comm (bits + 5) (k * (bits + 5)) ∙ sym (suc-mul k (bits + 5))

module _ (f : Format) where
  -- ---- nothing is sent
  pub still-valid : T (valid f (still (H261 f)))
  unfolding valid_macroblock
  still-valid = uniform-valid unsent (replicate 384 0) refl refl 1 f (λ number address. tt)

  pub still_long : length (picture_bits f (still (H261 f))) ≡ 32 + group_count f * 26
  unfolding macroblocks_of
  still_long =
      uniform_long unsent (replicate 384 0) refl refl 1 0 (λ more rest. ap (λ (ms : List Macroblock). length (macroblocks_of at_start ms)) (none_sent 33 1 (repeated 33 (replicate 384 0) ++ rest) more)) f

  -- ---- a refresh
  grey_six : (c : Code) → length (grey_levels (H261 f) (code_of c)) ≡ 384
  unfolding repeated
  grey_six c = refl

  grey_good : (c : Code) (number address : ℕ) → T (valid_macroblock f number address intra (grey_levels (H261 f) (code_of c)))
  unfolding valid_macroblock codes_first repeated
  grey_good one number address = tt
  grey_good two number address = tt

  grey_blocks : (c : Code) (rest : List ℕ) → length (blocks_of true (gathers 6 (grey_levels (H261 f) (code_of c) ++ rest))) ≡ 60
  unfolding repeated gathers gather blocks_of coefficients_of word_in later_table5
  grey_blocks one rest = refl
  grey_blocks two rest = refl

  pub grey-valid : (c : Code) → T (valid f (grey (H261 f) (code_of c)))
  grey-valid c = uniform-valid intra (grey_levels (H261 f) (code_of c)) refl (grey_six c) 0 f (grey_good c)

  pub grey_long : (c : Code) → length (picture_bits f (grey (H261 f) (code_of c))) ≡ 32 + group_count f * 2171
  grey_long c =
      uniform_long intra (grey_levels (H261 f) (code_of c)) refl (grey_six c) 0 2145
      (λ more rest. intra_long (grey_levels (H261 f) (code_of c)) (grey_six c) 60 (grey_blocks c) 33 0 at_start.vector more rest) f

  -- ---- one above the limit
  heavy_good : (number address : ℕ) → T (valid_macroblock f number address intra heavy_levels)
  unfolding valid_macroblock codes_first
  heavy_good number address = tt

  pub heavy-valid : T (valid f (heavy (H261 f)))
  heavy-valid = uniform-valid intra heavy_levels refl refl 0 f heavy_good

  -- in each of six blocks 8 bits of a DC code, 63 escapes of 20, and EOB
  heavy_blocks : (rest : List ℕ) → length (blocks_of true (gathers 6 (heavy_levels ++ rest))) ≡ 7620
  unfolding gathers gather blocks_of coefficients_of tcoeff_of word_in pairs later_table5
  heavy_blocks rest = refl

  pub heavy_long : length (picture_bits f (heavy (H261 f))) ≡ 32 + group_count f * 251651
  heavy_long = uniform_long intra heavy_levels refl refl 0 251625 (λ more rest. intra_long heavy_levels refl 7620 heavy_blocks 33 0 at_start.vector more rest) f

-- ---- whether it is a refresh
pub still_plain : (f : Format) → refresh f (still (H261 f)) ≡ false
unfolding refresh uniform repeated
still_plain Qcif = refl
still_plain Cif = refl

pub intra-refresh : (f : Format) (type : ℕ) (levels : List ℕ) → refresh f (uniform (H261 f) type intra levels) ≡ true
unfolding refresh uniform repeated
intra-refresh Qcif type levels = refl
intra-refresh Cif type levels = refl
