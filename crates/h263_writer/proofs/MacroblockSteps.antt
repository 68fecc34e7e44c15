-- The fields of a macroblock as they are written, on plain values. Assumes nothing.
use mathlib.Core.Path.{◌≡◌, sym, ap, subst, ◌∙◌}
use mathlib.Core.Bool.{Bool, true, false}
use mathlib.Core.List.{List, [], ◌∷◌, ◌++◌}
use Prim.Native.Nat.{ℕ, ◌+◌, ◌-◌, ◌*◌, ◌/◌, ◌%◌, ◌≤◌, ◌<◌}
use native.Mathlib.Omega.{arith}
use lib.Dec.{T, ltb, eqb, ltb→lt, eqb→eq, lit≤}
use lib.ListN.{get_or}
use lib.IntN.{ℤ, pos, nat_abs, ◌+ℤ◌, ◌-ℤ◌}
use Rattle.laws.specs.Choice.{pick, both, either, opposite}
use Rattle.laws.proofs.Choice.{both_right, either_right, T_true, pick_yes}
use Rattle.laws.specs.Table.{all_b}
use Rattle.laws.proofs.Table.{all_at}
use Rattle.bits.specs.Bits.{Bit, bits_of}
use Rattle.bits.specs.Code.{word_of, has_in}
use Rattle.bits.specs.Write.{bits_if}
use Rattle.bits.specs.Appended.{FieldFits, WroteBits, CountablePlace}
use Rattle.bits.proofs.Appended.{wrote_as, wrote_then, first_countable, then_countable, sent_counts, sent_wrote, CountableParts}
use Rattle.bits.proofs.Codewords.{has_all, has-each}
use Rattle.h263_words.specs.Tables.{mcbpc_intra, mcbpc_inter, cbpy, mvd}
use Rattle.h263_words.specs.Words.{is_intra, is_inter, has_dquant, is_dquant, turned, dquant_field}
use Rattle.h263_words.specs.Asked.{KindAsked}
use Rattle.layout.specs.Value.{Vector}
use Rattle.layout.specs.Flat.{number_of, gathers}
use Rattle.layout.specs.Numbers.{all, is_zero, is_level, codes_first}
use Rattle.h263_description.specs.Vector.{in_range, predictor}
use Rattle.h263_description.specs.Landing.{component_of, residue_of}
use Rattle.h263_description.specs.Valid.{valid_type, valid_levels}
use Rattle.h263_description.specs.Kept.{kept_vector, vectors_in}
use Rattle.h263_description.specs.declared.predicted.Kept.{Kept}
use Rattle.h263_description.proofs.Landing.{residue_low, component_residue}
use Rattle.h263_description.proofs.Levels.{all_levels}
use Rattle.h263_description.proofs.Predictor.{Ranged, predictor_ranged}
use Rattle.h263_description.proofs.Parts.{intra_type, type_most}
use Rattle.h263_writer.specs.Write.{component_bits, vector_bits, mcbpc_of, pattern_of, blocks_of, macroblock_of}
use Rattle.h263_writer.specs.Sound.{macroblock_at}
use Rattle.h263_writer.specs.Asked.{PatternAsked, BlocksAsked, ComponentAsked, ComponentsAsked, VectorAsked, TypeAsked, MacroblockAsked}
use Rattle.h263_writer.proofs.BlockTurn.{pattern_low}

-- ---- one component: tried at every pair of components that are kept as 32 more
abbrev agrees : ℕ → ℕ → Bool
agrees p v = eqb (nat_abs ((component_of v -ℤ component_of p) +ℤ pos 96) % 64) ((v + 96 - p) % 64)

all_agree : T (all_b 64 (λ p. all_b 64 (agrees p)))
all_agree = tt

pub difference : (p b : ℕ) → p < 64 → T (in_range (number_of b)) → (residue_of (number_of b) + 96 - p) % 64 ≡ nat_abs ((number_of b -ℤ component_of p) +ℤ pos 96) % 64
difference p b l t =
    let v = residue_of (number_of b) in
    let same = eqb→eq _ _ (all_at 64 (agrees p) (all_at 64 (λ p. all_b 64 (agrees p)) all_agree p l) v (residue_low (number_of b) t)) in
    sym (ap (λ (z : ℤ). nat_abs ((z -ℤ component_of p) +ℤ pos 96) % 64) (sym (component_residue (number_of b) t)) ∙ same)

-- so the component's codeword is that of the difference
module _ {t : List ℕ} {predicted byte at own : ℕ} (a : ComponentAsked t predicted byte at) (e : own ≡ residue_of (number_of byte)) where
  pub own_low : own < 64
  own_low = omega (arith, residue_low (number_of byte) a.near)

  word_is : word_of mvd ((own + 96 - predicted) % 64) ≡ component_bits (component_of predicted) (number_of byte)
  word_is = ap (word_of mvd) (ap (λ (n : ℕ). (n + 96 - predicted) % 64) e ∙ difference predicted byte a.low a.near)

  pub difference_counts : CountablePlace at (word_of mvd ((own + 96 - predicted) % 64))
  difference_counts = subst (CountablePlace at) (sym word_is) a.counts

  pub component_wrote : {s u : List ℕ} {q : ℕ} → WroteBits (word_of mvd ((own + 96 - predicted) % 64)) s at u q → WroteBits (component_bits (component_of predicted) (number_of byte)) s at u q
  component_wrote w = wrote_as w word_is

-- ---- a vector: its two components
module _ {t : List ℕ} {horizontal vertical across down at : ℕ} (a : ComponentsAsked t horizontal vertical across down at) where
  abbrev across_bits : List Bit
  across_bits = component_bits (component_of horizontal) (number_of across)

  abbrev down_bits : List Bit
  down_bits = component_bits (component_of vertical) (number_of down)

  pub across_asked : ComponentAsked t horizontal across at
  across_asked = record { tables = a.tables; low = a.horizontal_low; near = a.across_near; counts = first_countable across_bits down_bits a.counts }

  pub down_asked : {s u : List ℕ} {p : ℕ} → WroteBits across_bits s at u p → ComponentAsked t vertical down p
  down_asked w = record { tables = a.tables; low = a.vertical_low; near = a.down_near; counts = then_countable w down_bits a.counts }

-- against what predicts it
module _ {t macroblocks : List ℕ} {across n column : ℕ} {headed : Bool} {at : ℕ} (a : VectorAsked t macroblocks across n column headed at) (e : is_inter (get_or macroblocks (n * 4) 0) ≡ true)
    {k : Kept} (is : k ≡ kept_vector (predictor across headed (vectors_in macroblocks) n))
  where
    abbrev predicted : Vector
    predicted = predictor across headed (vectors_in macroblocks) n

    ranged : Ranged predicted
    ranged =
        predictor_ranged across a.before.wide headed n (vectors_in macroblocks)
        (λ m l. let b = a.before.before m l in record { horizontally = b.horizontally; vertically = b.vertically })

    abbrev own_kept : Vector
    own_kept = record { horizontal = component_of k.horizontal; vertical = component_of k.vertical }

    kept_is : own_kept ≡ predicted
    kept_is =
        (λ i. record { horizontal = component_of (is i).horizontal; vertical = component_of (is i).vertical })
        ∙ (λ i. record { horizontal = component_residue predicted.horizontal ranged.horizontally i; vertical = component_residue predicted.vertical ranged.vertically i })

    vector_is : vector_bits own_kept (vectors_in macroblocks n) ≡ vector_bits predicted (vectors_in macroblocks n)
    vector_is = ap (λ (v : Vector). vector_bits v (vectors_in macroblocks n)) kept_is

    pub components_asked : ComponentsAsked t k.horizontal k.vertical (get_or macroblocks (n * 4 + 2) 0) (get_or macroblocks (n * 4 + 3) 0) at
    components_asked = record {
      tables = a.tables;
      horizontal_low = omega (arith, ap (λ (x : Kept). x.horizontal) is, residue_low predicted.horizontal ranged.horizontally);
      vertical_low = omega (arith, ap (λ (x : Kept). x.vertical) is, residue_low predicted.vertical ranged.vertically);
      across_near = a.own.horizontally;
      down_near = a.own.vertically;
      counts = subst (CountablePlace at) (sym vector_is) (sent_counts (is_inter (get_or macroblocks (n * 4) 0)) e a.counts);
    }

    pub vector_wrote : {s u : List ℕ} {q : ℕ} → WroteBits (vector_bits own_kept (vectors_in macroblocks n)) s at u q
        → WroteBits (bits_if (is_inter (get_or macroblocks (n * 4) 0)) (vector_bits predicted (vectors_in macroblocks n))) s at u q
    vector_wrote w = sent_wrote (is_inter (get_or macroblocks (n * 4) 0)) e (wrote_as w vector_is)

-- ---- COD and MCBPC
intra_words : T (has_all mcbpc_intra.entries 4 11)
unfolding mcbpc_intra has_in
intra_words = tt

inter_words : T (has_all mcbpc_inter.entries 4 19)
unfolding mcbpc_inter has_in
inter_words = tt

module _ {t : List ℕ} {intra : Bool} {type pattern at : ℕ} (a : TypeAsked t intra type pattern at) where
  pub type_low : type ≤ 4
  type_low = type_most intra type a.typed

  module _ (e : intra ≡ true) where
    pub intra_kind : KindAsked t true (type * 4 + pattern % 4)
    intra_kind =
        let l : type ≤ 2 = (intra_type type (subst (λ (x : Bool). T (valid_type x type)) e a.typed)).1 in
        record { tables = a.tables; known = has-each mcbpc_intra.entries 4 11 intra_words (type * 4 + pattern % 4) (omega (arith, a.some)) (omega arith) }

    intra_is : word_of mcbpc_intra (type * 4 + pattern % 4) ≡ mcbpc_of intra type pattern
    intra_is = sym (ap (λ (x : Bool). mcbpc_of x type pattern) e)

    pub intra_counts : CountablePlace at (word_of mcbpc_intra (type * 4 + pattern % 4))
    intra_counts = subst (CountablePlace at) (sym intra_is) a.counts

    pub intra_wrote : {s u : List ℕ} {q : ℕ} → WroteBits (word_of mcbpc_intra (type * 4 + pattern % 4)) s at u q → WroteBits (mcbpc_of intra type pattern) s at u q
    intra_wrote w = wrote_as w intra_is

  module _ (e : intra ≡ false) where
    pub inter_kind : KindAsked t false (type * 4 + pattern % 4)
    inter_kind = record { tables = a.tables; known = has-each mcbpc_inter.entries 4 19 inter_words (type * 4 + pattern % 4) (omega (arith, a.some)) (omega (arith, type_low)) }

    abbrev inter_word : List Bit
    inter_word = word_of mcbpc_inter (type * 4 + pattern % 4)

    inter_is : bits_of 1 0 ++ inter_word ≡ mcbpc_of intra type pattern
    inter_is = sym (ap (λ (x : Bool). mcbpc_of x type pattern) e)

    pub cod_counts : CountablePlace at (bits_of 1 0)
    cod_counts = first_countable (bits_of 1 0) inter_word (subst (CountablePlace at) (sym inter_is) a.counts)

    pub inter_counts : {s u : List ℕ} {p : ℕ} → WroteBits (bits_of 1 0) s at u p → CountablePlace p inter_word
    inter_counts w = then_countable w inter_word (subst (CountablePlace at) (sym inter_is) a.counts)

    pub inter_wrote : {s u v : List ℕ} {p q : ℕ} → WroteBits (bits_of 1 0) s at u p → WroteBits inter_word u p v q → WroteBits (mcbpc_of intra type pattern) s at v q
    inter_wrote w x = wrote_as (wrote_then w x) inter_is

-- ---- DQUANT has two bits: tried at every byte
dquants_fit : T (all_b 256 (λ q. either (opposite (is_dquant q)) (ltb (dquant_field q) 4)))
dquants_fit = tt

pub dquant_fits : (type q : ℕ) → q < 256 → has_dquant type ≡ true → T (pick (has_dquant type) (is_dquant q) (is_zero q)) → FieldFits 2 (dquant_field q)
dquant_fits type q l e t =
    let is : T (is_dquant q) = pick_yes (is_dquant q) (is_zero q) e t in
    let low = either_right (opposite (is_dquant q)) (ltb (dquant_field q) 4) (ap opposite (T_true (is_dquant q) is)) (all_at 256 (λ q. either (opposite (is_dquant q)) (ltb (dquant_field q) 4)) dquants_fit q l) in
    record { some = lit≤ tt; short = lit≤ tt; small = ltb→lt (dquant_field q) 4 low }

-- the field that the code has
module _ {r v at : ℕ} (e : r ≡ v) where
  pub field_counts : FieldFits 2 v → CountablePlace at (bits_of 2 v) → FieldFits 2 r × CountablePlace at (bits_of 2 r)
  field_counts f c = (subst (FieldFits 2) (sym e) f, subst (λ (n : ℕ). CountablePlace at (bits_of 2 n)) (sym e) c)

  pub field_wrote : {s t : List ℕ} {q : ℕ} → WroteBits (bits_of 2 r) s at t q → WroteBits (bits_of 2 v) s at t q
  field_wrote w = wrote_as w (ap (bits_of 2) e)

-- ---- levels of INTRA begin with codes
pub all_codes : (type : ℕ) (levels : List ℕ) (intra : Bool) → intra ≡ is_intra type → T (valid_levels type levels) → T (either (opposite intra) (codes_first 6 levels))
all_codes type levels intra e t = subst (λ (x : Bool). T (either (opposite x) (codes_first 6 levels))) (sym e) (go (is_intra type) t)
  where
    go : (a : Bool) → T (pick a (both (all is_level levels) (codes_first 6 levels)) (pick (is_inter type) (all is_level levels) (all is_zero levels))) → T (either (opposite a) (codes_first 6 levels))
    go true t = both_right (all is_level levels) (codes_first 6 levels) t
    go false t = tt

-- ---- the whole macroblock, by what the code has of its type and pattern
module _ {t macroblocks levels : List ℕ} {across n column : ℕ} {intra headed : Bool} {at : ℕ} (a : MacroblockAsked t macroblocks levels across n column intra headed at)
    {own : Bool} (o : own ≡ is_intra (get_or macroblocks (n * 4) 0))
  where
    abbrev type : ℕ
    type = get_or macroblocks (n * 4) 0

    pub pattern_asked : PatternAsked levels own
    pattern_asked = record { long = a.levels_long; coded = all_codes type levels own o a.sound.levelled }

    module _ {pattern : ℕ} (p : pattern ≡ pattern_of own (gathers 6 levels)) where
      pub quarter_low : pattern / 4 ≤ 15
      quarter_low = omega (arith, pattern_low own levels)

      abbrev type_bits : List Bit
      type_bits = mcbpc_of intra type pattern

      abbrev pattern_bits : List Bit
      pattern_bits = word_of cbpy (turned own (pattern / 4))

      abbrev quantiser_bits : List Bit
      quantiser_bits = bits_if (has_dquant type) (bits_of 2 (dquant_field (get_or macroblocks (n * 4 + 1) 0)))

      abbrev pointing_bits : List Bit
      pointing_bits = bits_if (is_inter type) (vector_bits (predictor across headed (vectors_in macroblocks) n) (vectors_in macroblocks n))

      abbrev blocks_bits : List Bit
      blocks_bits = blocks_of own (gathers 6 levels)

      abbrev whole : List Bit
      whole = type_bits ++ (pattern_bits ++ (quantiser_bits ++ (pointing_bits ++ blocks_bits)))

      whole_is : whole ≡ macroblock_of intra (predictor across headed (vectors_in macroblocks) n) (macroblock_at (column + 1) macroblocks n levels)
      unfolding macroblock_of
      whole_is =
          (λ i. mcbpc_of intra type (p i) ++ (word_of cbpy (turned own (p i / 4)) ++ (quantiser_bits ++ (pointing_bits ++ blocks_bits))))
          ∙ (λ i. mcbpc_of intra type (pattern_of (o i) (gathers 6 levels)) ++ (word_of cbpy (turned (o i) (pattern_of (o i) (gathers 6 levels) / 4)) ++ (quantiser_bits ++ (pointing_bits ++ blocks_of (o i) (gathers 6 levels)))))

      pub macroblock_parts : CountableParts at (type_bits ∷ pattern_bits ∷ quantiser_bits ∷ pointing_bits ∷ blocks_bits ∷ [])
      macroblock_parts = record { counts = subst (CountablePlace at) (sym whole_is) a.counts }

      pub type_asked : CountablePlace at type_bits → TypeAsked t intra type pattern at
      type_asked c = record { tables = a.tables; some = a.sound.some; typed = a.sound.typed; counts = c }

      pub vector_asked : {q : ℕ} → CountablePlace q pointing_bits → VectorAsked t macroblocks across n column headed q
      vector_asked c = record { tables = a.tables; before = a.before; own = a.own; counts = c }

      pub blocks_asked : {q : ℕ} → CountablePlace q blocks_bits → BlocksAsked t levels own q
      blocks_asked c = record { tables = a.tables; long = a.levels_long; allowed = all_levels type levels a.sound.levelled; coded = all_codes type levels own o a.sound.levelled; counts = c }

      pub macroblock_whole : {s : List ℕ} {t₁ t₂ t₃ t₄ t₅ : List ℕ} {p₁ p₂ p₃ p₄ p₅ : ℕ} → WroteBits type_bits s at t₁ p₁ → WroteBits pattern_bits t₁ p₁ t₂ p₂
          → WroteBits quantiser_bits t₂ p₂ t₃ p₃ → WroteBits pointing_bits t₃ p₃ t₄ p₄ → WroteBits blocks_bits t₄ p₄ t₅ p₅
          → WroteBits (macroblock_of intra (predictor across headed (vectors_in macroblocks) n) (macroblock_at (column + 1) macroblocks n levels)) s at t₅ p₅
      macroblock_whole b c d e f = wrote_as (wrote_then b (wrote_then c (wrote_then d (wrote_then e f)))) whole_is

-- "the word of the pattern with its four bits turned": 0 to 15 again
pub turned_low : (own : Bool) (pattern : ℕ) {q : ℕ} → pattern ≤ 15 → q ≡ turned own pattern → q ≤ 15
turned_low own pattern {q} l e = go own e
  where
    go : (b : Bool) → q ≡ turned b pattern → q ≤ 15
    go true e = omega arith
    go false e = omega arith

-- CBPY, by what the code has turned
module _ {r v at : ℕ} (e : r ≡ v) where
  pub pattern_counts : CountablePlace at (word_of cbpy v) → CountablePlace at (word_of cbpy r)
  pattern_counts c = subst (λ (n : ℕ). CountablePlace at (word_of cbpy n)) (sym e) c

  pub pattern_wrote : {s t : List ℕ} {q : ℕ} → WroteBits (word_of cbpy r) s at t q → WroteBits (word_of cbpy v) s at t q
  pattern_wrote w = wrote_as w (ap (word_of cbpy) e)
