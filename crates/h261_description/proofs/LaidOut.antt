-- A proper picture lays out as a valid description. Assumes nothing.
use Prim.Native.Nat.{ℕ, ◌≤◌}
use mathlib.Core.Path.{◌≡◌, sym, subst}
use mathlib.Core.Bool.{Bool, true, false}
use mathlib.Core.List.{List, [], ◌∷◌}
use native.Mathlib.Omega.{arith}
use lib.Dec.{T, leb, eqb, le→leb, eqb_refl}
use lib.IntN.{ℤ}
use mir.Syntax.{w8}
use mir.Val.{Fits as Held}
use mir.Facts.{Fits-of_z}
use Rattle.laws.specs.Choice.{pick, both, opposite}
use Rattle.laws.proofs.Choice.{both_right, both_make}
use Rattle.laws.specs.Integer.{Low}
use Rattle.laws.proofs.Integer.{low_fits, back}
use Rattle.laws.proofs.Zeros.{zeros}
use Rattle.layout.specs.Value.{Block, Vector, zero_vector, Macroblock, Group}
use Rattle.layout.specs.Flat.{Flat, byte_of, vector_in, fields_of}
use Rattle.layout.specs.Numbers.{all, is_zero, is_quantiser, is_level, codes_first}
use Rattle.layout.specs.Proper.{If, Each, Begins, all_empty, Numbered}
use Rattle.layout.proofs.Blocks.{spreads_levels, spreads-zero, codes_first_lem}
use Rattle.layout.proofs.Spread.{spreads, levels_of, gquants, spread_out, laid_spread}
use Rattle.layout.proofs.Pictured.{numbered_map}
use Rattle.layout.proofs.LaidOut.{Unsent, Absent, unsent_all, groups_pass, lengths_pass}
use Rattle.h261_words.specs.Words.{is_intra, is_mc, has_mquant, has_cbp}
use Rattle.h261_groups.specs.Format.{format_bit, group_numbers}
use Rattle.h261_groups.specs.declared.Format.{Format}
use Rattle.h261_description.specs.Vector.{in_range, in_picture}
use Rattle.h261_description.specs.Value.{Picture, shape, value_of, laid_picture}
use Rattle.h261_description.specs.Valid.{valid_vector, valid_levels, valid_macroblock, lengths_of, valid_head, valid}
use Rattle.h261_description.specs.Proper.{ProperBlocks, ProperVector, ProperMacroblock, ProperGquant, ProperGroup, ProperGroups, Proper}
use Rattle.h261_description.proofs.Described.{small_vector, proper_storable, picture_storable}

-- ---- levels
-- "the DC of INTRA an allowed code", "every unused .. level is 0, and a type with CBP has a nonzero level"
levels_valid : (type : ℕ) (bs : List Block) → ProperBlocks type bs → T (valid_levels type (spreads bs))
levels_valid type bs h = from (is_intra type) (has_cbp type) h.coded
  where
    from : (intra cbp : Bool) → If intra (Each Begins bs) (If cbp (T (opposite (all_empty bs))) (T (all_empty bs)))
        → T (pick intra (both (all is_level (spreads bs)) (codes_first 6 (spreads bs))) (pick cbp (both (all is_level (spreads bs)) (opposite (all is_zero (spreads bs)))) (all is_zero (spreads bs))))
    from true cbp b =
        both_make (all is_level (spreads bs)) (codes_first 6 (spreads bs)) (spreads_levels bs h.fitting)
        (subst (λ (n : ℕ). T (codes_first n (spreads bs))) h.six (codes_first_lem bs h.fitting b))
    from false true b =
        both_make (all is_level (spreads bs)) (opposite (all is_zero (spreads bs))) (spreads_levels bs h.fitting) (rw (spreads-zero bs h.fitting) b)
    from false false b = rw (spreads-zero bs h.fitting) b

-- ---- macroblocks
small_byte : (z : ℤ) → Low 15 z → T (leb (byte_of z) 255)
small_byte z l = le→leb (byte_of z) 255 (byte (Fits-of_z (low_fits tt l)))
  where
    byte : {n : ℕ} → Held w8 n → n ≤ 255
    byte h = omega arith

quantiser_valid : (t : Bool) (q : ℕ) → If t (T (is_quantiser q)) (q ≡ 0) → T (pick t (is_quantiser q) (is_zero q))
quantiser_valid true q h = h
quantiser_valid false q h = rw h tt

vector_valid : (f : Format) (number : ℕ) (m : Macroblock) (mc : Bool) → If mc (ProperVector f number m.address m.vector) (m.vector ≡ zero_vector)
    → T (pick mc (valid_vector f number m.address (fields_of m)) (both (is_zero (byte_of m.vector.horizontal)) (is_zero (byte_of m.vector.vertical))))
vector_valid f number m true h =
    let v = small_vector f number m.address m.vector true h in
    let bytes : Bool = both (leb (byte_of m.vector.horizontal) 255) (leb (byte_of m.vector.vertical) 255) in
    let same : m.vector ≡ vector_in (fields_of m) = λ i. record { horizontal = sym (back w8 tt v.0) i; vertical = sym (back w8 tt v.1) i } in
    subst (λ (u : Vector). T (both bytes (both (both (in_range u.horizontal) (in_range u.vertical)) (in_picture f number m.address u)))) same
    (both_make bytes _ (both_make (leb (byte_of m.vector.horizontal) 255) _ (small_byte m.vector.horizontal v.0) (small_byte m.vector.vertical v.1))
    (both_make (both (in_range m.vector.horizontal) (in_range m.vector.vertical)) _
    (both_make (in_range m.vector.horizontal) _ h.horizontally h.vertically) h.inside))
vector_valid f number m false h = rw h tt

macroblock_valid : (f : Format) (number : ℕ) (m : Macroblock) → ProperMacroblock f number m → T (valid_macroblock f number m.address (fields_of m) (levels_of m))
unfolding valid_macroblock
macroblock_valid f number m h =
    both_make (leb m.type 10) _ (both_right (leb 1 m.type) (leb m.type 10) h.typed)
    (both_make (pick (has_mquant m.type) (is_quantiser m.quant) (is_zero m.quant)) _ (quantiser_valid (has_mquant m.type) m.quant h.quantised)
    (both_make (pick (is_mc m.type) (valid_vector f number m.address (fields_of m)) (both (is_zero (byte_of m.vector.horizontal)) (is_zero (byte_of m.vector.vertical)))) _
    (vector_valid f number m (is_mc m.type) h.pointed)
    (levels_valid m.type m.blocks h.blocked)))

-- an unsent one is valid anywhere
unsent_valid : (f : Format) (number address : ℕ) → Absent (valid_macroblock f number) address
unfolding valid_macroblock zeros
unsent_valid f number address = tt

-- ---- groups
quantisers_valid : (f : Format) (numbers : List ℕ) (xs : List Group) → ProperGroups f numbers xs → T (all is_quantiser (gquants xs))
quantisers_valid f [] [] h = tt
quantisers_valid f [] (x ∷ xs) h = absurd h
quantisers_valid f (number ∷ numbers) [] h = absurd h
quantisers_valid f (number ∷ numbers) (x ∷ xs) h = both_make (is_quantiser x.gquant) _ h.0.0 (quantisers_valid f numbers xs h.1)

groups_unsent : (f : Format) (numbers : List ℕ) (xs : List Group) → ProperGroups f numbers xs
    → Numbered (λ number x. Unsent (Absent (valid_macroblock f number)) 33 0 x.macroblocks) numbers xs
groups_unsent f =
    numbered_map (ProperGroup f) (λ number x. Unsent (Absent (valid_macroblock f number)) 33 0 x.macroblocks)
    (λ number x h. unsent_all (Absent (valid_macroblock f number)) (unsent_valid f number) 33 0 x.macroblocks)

-- ---- the theorem: "It is valid when ..", of the layout of a proper picture
spread_valid : (f : Format) (p : Picture) → Proper f p → T (valid f (spread_out (shape f) (value_of f p)))
unfolding valid
spread_valid f p h =
    let xs : List Group = p.groups in
    both_make (lengths_of f (spread_out (shape f) (value_of f p))) _ (lengths_pass (shape f) (value_of f p) (picture_storable f p h))
    (both_make (valid_head f (p.tr ∷ p.ptype ∷ format_bit f ∷ gquants xs)) _
    (both_make (leb p.tr 31) _ (le→leb p.tr 31 h.reference)
    (both_make (leb p.ptype 7) _ (le→leb p.ptype 7 h.typed)
    (both_make (eqb (format_bit f) (format_bit f)) _ (eqb_refl (format_bit f)) (quantisers_valid f (group_numbers f) xs h.grouped))))
    (groups_pass 33 (valid_macroblock f) ProperGquant (ProperMacroblock f) (proper_storable f) (macroblock_valid f) (group_numbers f) xs h.grouped (groups_unsent f (group_numbers f) xs h.grouped)))

pub proper_valid : (f : Format) (p : Picture) → Proper f p → T (valid f (laid_picture f p))
unfolding laid_picture
proper_valid f p h = subst (λ (d : Flat). T (valid f d)) (sym (laid_spread (shape f) (value_of f p) (picture_storable f p h))) (spread_valid f p h)
