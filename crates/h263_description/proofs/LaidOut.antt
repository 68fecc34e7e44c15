-- A proper picture lays out as a valid description. Assumes nothing.
use Prim.Native.Nat.{ℕ, zero, suc, ◌-◌, ◌≤◌, ◌<◌}
use mathlib.Core.Path.{◌≡◌, refl, sym, subst, ◌∙◌}
use mathlib.Core.Bool.{Bool, true, false}
use mathlib.Core.List.{List, [], ◌∷◌}
use native.Mathlib.Omega.{arith}
use lib.Dec.{T, leb, eqb, le→leb, eqb_refl}
use lib.IntN.{ℤ}
use lib.ListN.{length}
use mir.Syntax.{w8}
use mir.Val.{Fits as Held}
use mir.Facts.{Fits-of_z, yes_eqb}
use Rattle.laws.specs.Choice.{pick, both}
use Rattle.laws.proofs.Choice.{both_make, true-false}
use Rattle.laws.specs.Integer.{Low}
use Rattle.laws.proofs.Integer.{low_fits, back}
use Rattle.laws.proofs.Zeros.{zeros}
use Rattle.size.specs.declared.Size.{Size}
use Rattle.size.specs.Place.{macroblocks_across, macroblocks_down}
use Rattle.layout.specs.Value.{Block, Vector, zero_vector, Macroblock, Group}
use Rattle.layout.specs.Flat.{Flat, byte_of, vector_in, fields_of}
use Rattle.layout.specs.Numbers.{all, within, is_zero, is_quantiser, is_level, codes_first}
use Rattle.layout.specs.Proper.{If, Each, Begins, RisingTo}
use Rattle.layout.proofs.Blocks.{spreads_levels, codes_first_lem}
use Rattle.layout.proofs.Spread.{spreads, levels_of, gquants, spread_out, laid_spread}
use Rattle.layout.proofs.Pictured.{numbered_map}
use Rattle.layout.proofs.LaidOut.{Unsent, Absent, unsent_all, groups_pass, lengths_pass}
use Rattle.h263_words.specs.Words.{is_intra, is_inter, has_dquant, is_dquant}
use Rattle.h263_description.specs.Vector.{in_range, in_picture}
use Rattle.h263_description.specs.Value.{Picture, format_number, numbers_from, group_numbers, shape, value_of, laid_picture}
use Rattle.h263_description.specs.Fields.{is_intra_type}
use Rattle.h263_description.specs.Valid.{valid_vector, valid_levels, valid_type, valid_macroblock, lengths_of, valid_gquants, valid_head, valid}
use Rattle.h263_description.specs.Proper.{ProperBlocks, ProperVector, ProperMacroblock, ProperGquant, ProperGroup, ProperGroups, Proper}
use Rattle.h263_description.proofs.Parts.{type_most, type_some, type_valid}
use Rattle.h263_description.proofs.Described.{small_vector, proper_storable, groups_good, picture_storable}

-- ---- levels
-- a type that is sent is INTRA or INTER
sent_inter : (type : ℕ) → 1 ≤ type → type ≤ 4 → is_intra type ≡ false → is_inter type ≡ true
sent_inter zero l h e = absurd (omega arith)
sent_inter (suc zero) l h e = absurd (true-false e)
sent_inter (suc (suc zero)) l h e = absurd (true-false e)
sent_inter (suc (suc (suc zero))) l h e = refl
sent_inter (suc (suc (suc (suc zero)))) l h e = refl
sent_inter (suc (suc (suc (suc (suc type))))) l h e = absurd (omega arith)

-- "the DC of INTRA an allowed code", "an INTER macroblock may be without a nonzero level"
levels_valid : (type : ℕ) (bs : List Block) → 1 ≤ type → type ≤ 4 → ProperBlocks type bs → T (valid_levels type (spreads bs))
levels_valid type bs l m h = from (is_intra type) refl h.coded
  where
    levelled : T (all is_level (spreads bs))
    levelled = spreads_levels bs h.fitting

    from : (intra : Bool) → is_intra type ≡ intra → If intra (Each Begins bs) (Unit {0})
        → T (pick intra (both (all is_level (spreads bs)) (codes_first 6 (spreads bs))) (pick (is_inter type) (all is_level (spreads bs)) (all is_zero (spreads bs))))
    from true e b =
        both_make (all is_level (spreads bs)) (codes_first 6 (spreads bs)) levelled
        (subst (λ (n : ℕ). T (codes_first n (spreads bs))) h.six (codes_first_lem bs h.fitting b))
    from false e b = subst (λ (inter : Bool). T (pick inter (all is_level (spreads bs)) (all is_zero (spreads bs)))) (sym (sent_inter type l m e)) levelled

-- ---- macroblocks
small_byte : (z : ℤ) → Low 32 z → T (leb (byte_of z) 255)
small_byte z l = le→leb (byte_of z) 255 (byte (Fits-of_z (low_fits tt l)))
  where
    byte : {n : ℕ} → Held w8 n → n ≤ 255
    byte h = omega arith

quant_valid : (t : Bool) (q : ℕ) → If t (T (is_dquant q)) (q ≡ 0) → T (pick t (is_dquant q) (is_zero q))
quant_valid true q h = h
quant_valid false q h = rw h tt

vector_valid : (size : Size) (number : ℕ) (m : Macroblock) (inter : Bool) → If inter (ProperVector size number m.address m.vector) (m.vector ≡ zero_vector)
    → T (pick inter (valid_vector size number m.address (fields_of m)) (both (is_zero (byte_of m.vector.horizontal)) (is_zero (byte_of m.vector.vertical))))
vector_valid size number m true h =
    let v = small_vector size number m.address m.vector true h in
    let bytes : Bool = both (leb (byte_of m.vector.horizontal) 255) (leb (byte_of m.vector.vertical) 255) in
    let same : m.vector ≡ vector_in (fields_of m) = λ i. record { horizontal = sym (back w8 tt v.0) i; vertical = sym (back w8 tt v.1) i } in
    subst (λ (u : Vector). T (both bytes (both (both (in_range u.horizontal) (in_range u.vertical)) (in_picture size number m.address u)))) same
    (both_make bytes _ (both_make (leb (byte_of m.vector.horizontal) 255) _ (small_byte m.vector.horizontal v.0) (small_byte m.vector.vertical v.1))
    (both_make (both (in_range m.vector.horizontal) (in_range m.vector.vertical)) _
    (both_make (in_range m.vector.horizontal) _ h.horizontally h.vertically) h.inside))
vector_valid size number m false h = rw h tt

macroblock_valid : (size : Size) (intra : Bool) (number : ℕ) (m : Macroblock) → ProperMacroblock size intra number m → T (valid_macroblock size intra number m.address (fields_of m) (levels_of m))
unfolding valid_macroblock
macroblock_valid size intra number m h =
    let type = type_valid intra m.type h.typed in
    both_make (valid_type intra m.type) _ type
    (both_make (pick (has_dquant m.type) (is_dquant m.quant) (is_zero m.quant)) _ (quant_valid (has_dquant m.type) m.quant h.quantised)
    (both_make (pick (is_inter m.type) (valid_vector size number m.address (fields_of m)) (both (is_zero (byte_of m.vector.horizontal)) (is_zero (byte_of m.vector.vertical)))) _
    (vector_valid size number m (is_inter m.type) h.pointed)
    (levels_valid m.type m.blocks (type_some intra m.type h.typed) (type_most intra m.type type) h.blocked)))

-- an unsent one is valid anywhere in a picture of type INTER
unsent_valid : (size : Size) (number address : ℕ) → Absent (valid_macroblock size false number) address
unfolding valid_macroblock zeros
unsent_valid size number address = tt

-- ---- groups
-- rising addresses leave none out where there are as many as can be
rising_count : (Good : Macroblock → Type 0) (each last : ℕ) (ms : List Macroblock) → RisingTo Good each last ms → length ms ≤ each - last
rising_count Good each last [] h = omega arith
rising_count Good each last (m ∷ ms) h = omega (arith, h.0, h.1, rising_count Good each m.address ms h.3)

none_unsent : (Good : Macroblock → Type 0) (May : ℕ → Type 0) (each last : ℕ) (ms : List Macroblock) → RisingTo Good each last ms → length ms ≡ each - last → Unsent May each last ms
none_unsent Good May each last [] h e = λ address l m. absurd (omega arith)
none_unsent Good May each last (m ∷ ms) h e =
    let later = rising_count Good each m.address ms h.3 in
    let a : last < m.address = h.0 in
    let b : m.address ≤ each = h.1 in
    ((λ address k n. absurd (omega arith)), none_unsent Good May each m.address ms h.3 (omega arith))

group_unsent : (size : Size) (intra : Bool) (number : ℕ) (x : Group) → ProperGroup size intra number x
    → Unsent (Absent (valid_macroblock size intra number)) (macroblocks_across size) 0 x.macroblocks
group_unsent size true number x h =
    none_unsent (ProperMacroblock size true number) (Absent (valid_macroblock size true number)) (macroblocks_across size) 0 x.macroblocks h.good.1 (h.complete ∙ whole)
  where
    whole : macroblocks_across size ≡ macroblocks_across size - 0
    whole = omega arith
group_unsent size false number x h =
    unsent_all (Absent (valid_macroblock size false number)) (unsent_valid size number) (macroblocks_across size) 0 x.macroblocks

-- ---- GQUANTs
gquant_low : (number gquant : ℕ) → ProperGquant number gquant → T (within 0 31 gquant)
gquant_low zero gquant h = rw h tt
gquant_low (suc number) gquant h = both_make (leb 0 gquant) (leb gquant 31) (le→leb 0 gquant (omega arith)) (le→leb gquant 31 h)

gquants_low : (size : Size) (intra : Bool) (numbers : List ℕ) (xs : List Group) → ProperGroups size intra numbers xs → T (all (within 0 31) (gquants xs))
gquants_low size intra [] [] h = tt
gquants_low size intra [] (x ∷ xs) h = absurd h
gquants_low size intra (number ∷ numbers) [] h = absurd h
gquants_low size intra (number ∷ numbers) (x ∷ xs) h =
    both_make (within 0 31 x.gquant) _ (gquant_low number x.gquant h.0.good.0) (gquants_low size intra numbers xs h.1)

-- the first group's is 0
gquants-valid : (size : Size) (intra : Bool) (k : ℕ) (xs : List Group) → ProperGroups size intra (numbers_from 0 k) xs → T (valid_gquants (gquants xs))
gquants-valid size intra zero [] h = tt
gquants-valid size intra zero (x ∷ xs) h = absurd h
gquants-valid size intra (suc k) [] h = absurd h
gquants-valid size intra (suc k) (x ∷ xs) h =
    both_make (is_zero x.gquant) (all (within 0 31) (gquants (x ∷ xs))) (yes_eqb h.0.good.0) (gquants_low size intra (numbers_from 0 (suc k)) (x ∷ xs) h)

-- ---- the theorem: "It is valid when ..", of the layout of a proper picture
spread_valid : (size : Size) (p : Picture) → Proper size p → T (valid size (spread_out (shape size) (value_of size p)))
unfolding valid
spread_valid size p h =
    let xs : List Group = p.groups in
    let intra : Bool = is_intra_type p.type in
    let each : ℕ = macroblocks_across size in
    both_make (lengths_of size (spread_out (shape size) (value_of size p))) _ (lengths_pass (shape size) (value_of size p) (picture_storable size p h))
    (both_make (valid_head size (p.tr ∷ p.ptype ∷ format_number size ∷ p.type ∷ p.pquant ∷ gquants xs)) _
    (both_make (leb p.tr 255) _ (le→leb p.tr 255 h.reference)
    (both_make (leb p.ptype 7) _ (le→leb p.ptype 7 h.flagged)
    (both_make (eqb (format_number size) (format_number size)) _ (eqb_refl (format_number size))
    (both_make (leb p.type 1) _ (le→leb p.type 1 h.typed)
    (both_make (is_quantiser p.pquant) _ h.quantised (gquants-valid size intra (macroblocks_down size) xs h.grouped))))))
    (groups_pass each (valid_macroblock size intra) ProperGquant (ProperMacroblock size intra) (proper_storable size intra) (macroblock_valid size intra) (group_numbers size) xs
    (groups_good size intra (group_numbers size) xs h.grouped)
    (numbered_map (ProperGroup size intra) (λ number x. Unsent (Absent (valid_macroblock size intra number)) each 0 x.macroblocks) (group_unsent size intra) (group_numbers size) xs h.grouped)))

pub proper_valid : (size : Size) (p : Picture) → Proper size p → T (valid size (laid_picture size p))
unfolding laid_picture
proper_valid size p h = subst (λ (d : Flat). T (valid size d)) (sym (laid_spread (shape size) (value_of size p) (picture_storable size p h))) (spread_valid size p h)
