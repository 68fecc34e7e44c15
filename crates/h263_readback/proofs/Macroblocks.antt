-- A macroblock is read back over any predictor in range, after its COD and MCBPC. Assumes nothing.
use mathlib.Core.Path.{◌≡◌, refl, ap}
use mathlib.Core.List.{List, ◌++◌}
use mathlib.Core.Bool.{Bool, true, false}
use Prim.Native.Nat.{ℕ, ◌+◌, ◌*◌, ◌/◌, ◌%◌, ◌^◌, ◌≤◌, ◌<◌}
use native.Mathlib.Omega.{arith}
use lib.Dec.{T, eqb, ltb, eqb→eq, ltb→lt}
use lib.ListN.{length}
use Rattle.laws.specs.Choice.{both}
use Rattle.laws.proofs.Choice.{both_left, both_right}
use Rattle.bits.specs.Bits.{Bit, bits_of}
use Rattle.bits.specs.Write.{bits_if}
use Rattle.bits.specs.Read.{◌>>=◌, done, field}
use Rattle.bits.specs.Code.{word_of}
use Rattle.bits.proofs.ReadBack.{Back, back_done, back_next, back_end, back_field}
use Rattle.size.specs.declared.Size.{Size}
use Rattle.layout.specs.Value.{Vector, Macroblock}
use Rattle.layout.specs.Proper.{If}
use Rattle.fields.specs.Rules.{optional}
use Rattle.h263_words.specs.Tables.{cbpy}
use Rattle.h263_words.specs.Words.{is_intra, is_inter, has_dquant, type_in, chroma_in, turned, dquants, dquant_in, is_dquant, dquant_field}
use Rattle.h263_description.specs.Proper.{ProperMacroblock}
use Rattle.h263_description.proofs.Predictor.{Ranged}
use Rattle.h263_layers.specs.Grammar.{macroblock, blocks_read}
use Rattle.h263_writer.specs.Write.{vector_bits, pattern_of, blocks_of}
use Rattle.h263_readback.proofs.Words.{one_of_lem, back_cbpy}
use Rattle.h263_readback.proofs.Blocks.{pattern_less, back_blocks}
use Rattle.h263_readback.proofs.Vectors.{back_vector}

-- ---- DQUANT
abbrev sends : ℕ → Bool
sends q = both (ltb (dquant_field q) 4) (eqb (dquant_in (dquant_field q)) q)

dquant_back : (q : ℕ) → T (is_dquant q) → T (sends q)
dquant_back q h = one_of_lem sends dquants q tt h

back_dquant : (has : Bool) (q : ℕ) (rest : List Bit) → If has (T (is_dquant q)) (q ≡ 0)
    → Back (optional has 0 (field 2 >>= λ x. done (dquant_in x))) (bits_if has (bits_of 2 (dquant_field q))) rest q
back_dquant true q rest h =
    let t = dquant_back q h in
    back_end _ (back_field 2 (dquant_field q) rest (ltb→lt (dquant_field q) 4 (both_left (ltb (dquant_field q) 4) _ t)))
    (ap done (eqb→eq (dquant_in (dquant_field q)) q (both_right (ltb (dquant_field q) 4) _ t)))
back_dquant false q rest h = rw h (back_done 0 rest)

-- ---- CBPY turned is turned back
turned_small : (b : Bool) (x : ℕ) → x ≤ 15 → turned b x ≤ 15
turned_small true x l = l
turned_small false x l = omega arith

turned_twice : (b : Bool) (x : ℕ) → x ≤ 15 → turned b (turned b x) ≡ x
turned_twice true x l = refl
turned_twice false x l = omega arith

-- ---- what is written after MCBPC
abbrev pub pattern_in : Macroblock → ℕ
pattern_in m = pattern_of (is_intra m.type) m.blocks

abbrev pub body_of : Vector → Macroblock → List Bit
body_of predicted m =
    word_of cbpy (turned (is_intra m.type) (pattern_in m / 4))
    ++ (bits_if (has_dquant m.type) (bits_of 2 (dquant_field m.quant))
    ++ (bits_if (is_inter m.type) (vector_bits predicted m.vector) ++ blocks_of (is_intra m.type) m.blocks))

module _ (size : Size) (intra : Bool) (number : ℕ) (predicted : Vector) (m : Macroblock) (p : ProperMacroblock size intra number m) (r : Ranged predicted) where
  pub pattern_small : pattern_in m < 64
  pattern_small =
      let e : 2 ^ length m.blocks ≡ 64 = ap (λ (n : ℕ). 2 ^ n) p.blocked.six in
      omega (arith, pattern_less (is_intra m.type) m.blocks)

  pub back_body : (kind : ℕ) (rest : List Bit) → type_in kind ≡ m.type → chroma_in kind ≡ pattern_in m % 4
      → Back (macroblock size number m.address predicted kind) (body_of predicted m) rest m
  unfolding macroblock
  back_body kind rest e c =
      let i = is_intra m.type in
      let x = pattern_in m in
      let l = pattern_small in
      let four : x / 4 ≤ 15 = omega arith in
      let again : x / 4 * 4 + x % 4 ≡ x = omega arith in
      let blocks : Back (blocks_read i (bits_of 6 (turned i (turned i (x / 4)) * 4 + x % 4))) (blocks_of i m.blocks) rest m.blocks =
      rw (turned_twice i (x / 4) four, again) (back_blocks i m.blocks rest p.blocked.six p.blocked.fitting p.blocked.coded) in
      rw (e, c)
      (back_next _ (back_cbpy (turned i (x / 4)) _ (turned_small i (x / 4) four))
      (back_next _ (back_dquant (has_dquant m.type) m.quant _ p.quantised)
      (back_next _ (back_vector size number m.address (is_inter m.type) predicted m.vector _ r p.pointed)
      (back_end _ blocks refl))))
