-- H.263's descriptions whose macroblocks are all alike: each is valid, and has so many bits. Assumes nothing.
use Prim.Native.Nat.{ℕ, zero, suc, ◌+◌, ◌*◌}
use mathlib.Core.Path.{◌≡◌, refl, sym, ap, ◌∙◌}
use mathlib.Core.Bool.{Bool, true, false}
use mathlib.Core.List.{List, [], ◌∷◌, ◌++◌}
use native.Mathlib.Nat.{zero-mul, suc-mul, add_comm}
use native.Mathlib.Omega.{arith}
use borrow.Author.Tests.{eq-eqb}
use lib.Dec.{T, leb}
use lib.ListN.{length, replicate, drop, length-append}
use lib.Seq.{drop_at}
use Rattle.laws.proofs.Choice.{both_make, true-T}
use Rattle.bits.specs.Code.{word_in, has_in}
use Rattle.size.specs.declared.Size.{Size}
use Rattle.size.specs.declared.Size.TheVariants.{SubQcif, Qcif, Cif}
use Rattle.size.specs.Place.{macroblocks_across, macroblocks_down}
use Rattle.layout.specs.Value.{Vector, zero_vector, Macroblock, Group}
use Rattle.layout.specs.Flat.{macroblock_in, gather, gathers, macroblocks_in, groups_in}
use Rattle.layout.specs.Numbers.{codes_first}
use Rattle.h263_words.specs.Tables.{mcbpc_intra, cbpy, tcoef}
use Rattle.h263_words.specs.Words.{tcoef_of}
use Rattle.h263_description.specs.Value.{group_numbers, picture_in}
use Rattle.h263_description.specs.Vector.{vectors_of, predictor}
use Rattle.h263_description.specs.Fields.{is_intra_type, refresh}
use Rattle.h263_description.specs.Valid.{valid_macroblock, lengths_of, valid_head, valid}
use Rattle.h263_writer.specs.Write.{events_of, blocks_of, pattern_of, macroblock_of, row_of, row_vectors, groups_of, picture_of, picture_bits}
use Rattle.coding.specs.declared.Kind.TheVariants.{H263}
use Rattle.instances.specs.Uniform.{repeated, uniform_head, uniform, unsent, intra, grey_levels, heavy_levels, still, grey, heavy}
use Rattle.instances.proofs.Repeated.{repeated_long, unrolled, grouped, ungrouped, others, every_group_lem}
use Rattle.instances.proofs.Codes.{Code, one, two, code_of}
use Rattle.instances.proofs.H261.{none_sent}

numbers_count : (size : Size) → length (group_numbers size) ≡ macroblocks_down size
numbers_count SubQcif = refl
numbers_count Qcif = refl
numbers_count Cif = refl

module _ (fields levels : List ℕ) (four : length fields ≡ 4) (six : length levels ≡ 384) (type : ℕ) where
  -- ---- validity
  uniform-valid : (size : Size) → leb type 1 ≡ true → ((number address : ℕ) → T (valid_macroblock size (is_intra_type type) number address fields levels)) → T (valid size (uniform (H263 size) type fields levels))
  unfolding valid uniform
  uniform-valid size few h =
      both_make (lengths_of size (uniform (H263 size) type fields levels)) _ (true-T (lengths_of size (uniform (H263 size) type fields levels)) (long size))
      (both_make (valid_head size (uniform_head (H263 size) type)) _ (head size)
      (every_group_lem fields levels four six (macroblocks_across size) (valid_macroblock size (is_intra_type type)) h (group_numbers size) (macroblocks_down size * macroblocks_across size)
      (ap (λ (k : ℕ). k * macroblocks_across size) (sym (numbers_count size)))))
    where
      head : (size : Size) → T (valid_head size (uniform_head (H263 size) type))
      head SubQcif = rw few tt
      head Qcif = rw few tt
      head Cif = rw few tt

      long : (size : Size) → lengths_of size (uniform (H263 size) type fields levels) ≡ true
      long SubQcif = rw (eq-eqb (length (repeated 48 fields)) 192 (repeated_long 48 4 fields four), eq-eqb (length (repeated 48 levels)) 18432 (repeated_long 48 384 levels six))
      long Qcif = rw (eq-eqb (length (repeated 99 fields)) 396 (repeated_long 99 4 fields four), eq-eqb (length (repeated 99 levels)) 38016 (repeated_long 99 384 levels six))
      long Cif = rw (eq-eqb (length (repeated 396 fields)) 1584 (repeated_long 396 4 fields four), eq-eqb (length (repeated 396 levels)) 152064 (repeated_long 396 384 levels six))

  -- ---- the number of bits: 50 of the picture's header, and those of its macroblocks
  module _ (across : ℕ) (intra : Bool) (bits : ℕ)
      (each : (vectors : List Vector) (more rest : List ℕ) → length (row_of across across intra 0 1 vectors (macroblocks_in across 1 (repeated across fields ++ more) (repeated across levels ++ rest))) ≡ bits) where
    groups_long : (numbers : List ℕ) (n : ℕ) (vectors : List Vector) → n ≡ length numbers * across
        → length (groups_of across intra numbers vectors (groups_in across (replicate (length numbers) 0) (repeated n fields) (repeated n levels))) ≡ length numbers * bits
    unfolding groups_of groups_in
    groups_long [] n vectors e = sym (zero-mul bits)
    groups_long (number ∷ numbers) n vectors e =
        let m : ℕ = length numbers * across in
        let q : n ≡ across + m = others across n (length numbers) e in
        let ms : List Macroblock = macroblocks_in across 1 (repeated n fields) (repeated n levels) in
        let after : List Vector = row_vectors across 1 vectors ms in
        let gs : List Group = groups_in across (replicate (length numbers) 0) (drop (across * 4) (repeated n fields)) (drop (across * 384) (repeated n levels)) in
        let first : length (row_of across across intra 0 1 vectors ms) ≡ bits =
        (λ i. length (row_of across across intra 0 1 vectors (macroblocks_in across 1 (grouped across n m fields q i) (grouped across n m levels q i)))) ∙ each vectors (repeated m fields) (repeated m levels) in
        let rest : length (groups_of across intra numbers after gs) ≡ length numbers * bits =
        (λ i. length (groups_of across intra numbers after (groups_in across (replicate (length numbers) 0) (ungrouped across n m fields q 4 four i) (ungrouped across n m levels q 384 six i)))) ∙ groups_long numbers m after refl in
        length-append (row_of across across intra 0 1 vectors ms) (groups_of across intra numbers after gs)
        ∙ (λ i. first i + rest i)
        ∙ add_comm bits (length numbers * bits) ∙ sym (suc-mul (length numbers) bits)

  uniform_long : (size : Size) (bits : ℕ)
      → ((vectors : List Vector) (more rest : List ℕ) → length (row_of (macroblocks_across size) (macroblocks_across size) (is_intra_type type) 0 1 vectors (macroblocks_in (macroblocks_across size) 1 (repeated (macroblocks_across size) fields ++ more) (repeated (macroblocks_across size) levels ++ rest))) ≡ bits)
      → length (picture_bits size (uniform (H263 size) type fields levels)) ≡ 50 + macroblocks_down size * bits
  unfolding picture_bits picture_in picture_of uniform
  uniform_long SubQcif bits each =
      let h : length (groups_of 8 (is_intra_type type) (group_numbers SubQcif) [] (groups_in 8 (replicate 6 0) (repeated 48 fields) (repeated 48 levels))) ≡ 6 * bits = groups_long 8 (is_intra_type type) bits each (group_numbers SubQcif) 48 [] refl in
      omega arith
  uniform_long Qcif bits each =
      let h : length (groups_of 11 (is_intra_type type) (group_numbers Qcif) [] (groups_in 11 (replicate 9 0) (repeated 99 fields) (repeated 99 levels))) ≡ 9 * bits = groups_long 11 (is_intra_type type) bits each (group_numbers Qcif) 99 [] refl in
      omega arith
  uniform_long Cif bits each =
      let h : length (groups_of 22 (is_intra_type type) (group_numbers Cif) [] (groups_in 22 (replicate 18 0) (repeated 396 fields) (repeated 396 levels))) ≡ 18 * bits = groups_long 22 (is_intra_type type) bits each (group_numbers Cif) 396 [] refl in
      omega arith

-- ---- unsent macroblocks: COD alone
unsent_row : (k across : ℕ) (intra : Bool) (address : ℕ) (vectors : List Vector) → length (row_of k across intra 0 address vectors []) ≡ k
unfolding row_of
unsent_row zero across all_intra address vectors = refl
unsent_row (suc k) across all_intra address vectors = ap suc (unsent_row k across all_intra (address + 1) (vectors ++ zero_vector ∷ []))

-- ---- INTRA macroblocks in an INTRA picture
row_step : (k across address : ℕ) (vectors : List Vector) (m : Macroblock) (ms : List Macroblock) → m.address ≡ address
    → length (row_of (suc k) across true 0 address vectors (m ∷ ms))
    ≡ length (macroblock_of true (predictor across false (vectors_of vectors) (length vectors)) m) + length (row_of k across true 0 (address + 1) (vectors ++ m.vector ∷ []) ms)
unfolding row_of
row_step k across address vectors m ms e =
    rw (eq-eqb m.address address e)
    (length-append (macroblock_of true (predictor across false (vectors_of vectors) (length vectors)) m) (row_of k across true 0 (address + 1) (vectors ++ m.vector ∷ []) ms))

module _ (levels : List ℕ) (six : length levels ≡ 384) (bits : ℕ)
    (each : (predicted : Vector) (address : ℕ) (rest : List ℕ) → length (macroblock_of true predicted (macroblock_in address intra (levels ++ rest))) ≡ bits) where
  intra_row : (k across address : ℕ) (vectors : List Vector) (more rest : List ℕ)
      → length (row_of k across true 0 address vectors (macroblocks_in k address (repeated k intra ++ more) (repeated k levels ++ rest))) ≡ k * bits
  unfolding macroblocks_in row_of
  intra_row zero across address vectors more rest = sym (zero-mul bits)
  intra_row (suc k) across address vectors more rest =
      let tail : List ℕ = repeated k levels ++ rest in
      let m : Macroblock = macroblock_in address intra (levels ++ tail) in
      let ms : List Macroblock = macroblocks_in k (address + 1) (repeated k intra ++ more) (drop 384 (levels ++ tail)) in
      let after : List Vector = vectors ++ m.vector ∷ [] in
      let below : length (row_of k across true 0 (address + 1) after ms) ≡ k * bits =
      ap (λ (l : List ℕ). length (row_of k across true 0 (address + 1) after (macroblocks_in k (address + 1) (repeated k intra ++ more) l))) (drop_at levels tail 384 six) ∙ intra_row k across (address + 1) after more rest in
      (λ i. length (row_of (suc k) across true 0 address vectors (macroblocks_in (suc k) address (unrolled k intra more i) (unrolled k levels rest i))))
      ∙ row_step k across address vectors m ms refl
      ∙ (λ i. each (predictor across false (vectors_of vectors) (length vectors)) address tail i + below i)
      ∙ add_comm bits (k * bits) ∙ sym (suc-mul k bits)

module _ (size : Size) where
  -- ---- nothing is sent
  pub still-valid : T (valid size (still (H263 size)))
  unfolding valid_macroblock
  still-valid = uniform-valid unsent (replicate 384 0) refl refl 1 size refl (λ number address. tt)

  pub still_long : length (picture_bits size (still (H263 size))) ≡ 50 + macroblocks_down size * macroblocks_across size
  still_long =
      let across : ℕ = macroblocks_across size in
      uniform_long unsent (replicate 384 0) refl refl 1 size across
      (λ vectors more rest.
      ap (λ (ms : List Macroblock). length (row_of across across false 0 1 vectors ms)) (none_sent across 1 (repeated across (replicate 384 0) ++ rest) more) ∙ unsent_row across across false 1 vectors)

  pub still_plain : refresh (still (H263 size)) ≡ false
  unfolding refresh uniform
  still_plain = refl

  -- ---- a refresh
  grey_six : (c : Code) → length (grey_levels (H263 size) (code_of c)) ≡ 384
  unfolding repeated
  grey_six c = refl

  grey_good : (c : Code) (number address : ℕ) → T (valid_macroblock size true number address intra (grey_levels (H263 size) (code_of c)))
  unfolding valid_macroblock codes_first repeated
  grey_good one number address = tt
  grey_good two number address = tt

  pub grey-valid : (c : Code) → T (valid size (grey (H263 size) (code_of c)))
  grey-valid c = uniform-valid intra (grey_levels (H263 size) (code_of c)) refl (grey_six c) 0 size refl (grey_good c)

  -- MCBPC of three bits, CBPY of two, and in each of six blocks 8 bits of a DC code and a codeword of five
  grey_macroblock : (c : Code) (predicted : Vector) (address : ℕ) (rest : List ℕ) → length (macroblock_of true predicted (macroblock_in address intra (grey_levels (H263 size) (code_of c) ++ rest))) ≡ 83
  unfolding repeated gathers gather macroblock_of pattern_of blocks_of events_of tcoef_of word_in has_in tcoef mcbpc_intra cbpy
  grey_macroblock one predicted address rest = refl
  grey_macroblock two predicted address rest = refl

  pub grey_long : (c : Code) → length (picture_bits size (grey (H263 size) (code_of c))) ≡ 50 + macroblocks_down size * (macroblocks_across size * 83)
  grey_long c =
      let across : ℕ = macroblocks_across size in
      let levels : List ℕ = grey_levels (H263 size) (code_of c) in
      uniform_long intra levels refl (grey_six c) 0 size (across * 83) (λ vectors more rest. intra_row levels (grey_six c) 83 (grey_macroblock c) across across 1 vectors more rest)

  -- ---- one above the limit
  heavy_good : (number address : ℕ) → T (valid_macroblock size true number address intra heavy_levels)
  unfolding valid_macroblock codes_first
  heavy_good number address = tt

  pub heavy-valid : T (valid size (heavy (H263 size)))
  heavy-valid = uniform-valid intra heavy_levels refl refl 0 size refl heavy_good

  -- MCBPC and CBPY, and in each of six blocks 8 bits of a DC code and 63 escapes of 22
  heavy_macroblock : (predicted : Vector) (address : ℕ) (rest : List ℕ) → length (macroblock_of true predicted (macroblock_in address intra (heavy_levels ++ rest))) ≡ 8369
  unfolding gathers gather macroblock_of pattern_of blocks_of events_of tcoef_of word_in has_in tcoef mcbpc_intra cbpy
  heavy_macroblock predicted address rest = refl

  pub heavy_long : length (picture_bits size (heavy (H263 size))) ≡ 50 + macroblocks_down size * (macroblocks_across size * 8369)
  heavy_long =
      let across : ℕ = macroblocks_across size in
      uniform_long intra heavy_levels refl refl 0 size (across * 8369) (λ vectors more rest. intra_row heavy_levels refl 8369 heavy_macroblock across across 1 vectors more rest)

  pub intra-refresh : (levels : List ℕ) → refresh (uniform (H263 size) 0 intra levels) ≡ true
  unfolding refresh uniform
  intra-refresh levels = refl
