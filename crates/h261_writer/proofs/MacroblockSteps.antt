-- The fields of a macroblock as they are written, on plain values. Assumes nothing.
use mathlib.Core.Path.{◌≡◌, refl, sym, ap, subst, ◌∙◌}
use mathlib.Core.Bool.{Bool, true, false}
use mathlib.Core.List.{List, [], ◌∷◌}
use Prim.Native.Nat.{ℕ, ◌+◌, ◌-◌, ◌%◌, ◌^◌, ◌≤◌, ◌<◌}
use native.Mathlib.Omega.{arith}
use lib.Dec.{T, leb, ltb, eqb, leb→le, ltb→lt, eqb→eq, lit≤}
use mathlib.Core.Logic.{◌⊎◌, inl, inr, ⊎_elim}
use lib.ListN.{length, get_or}
use lib.IntN.{pos, nat_abs, ◌+ℤ◌, ◌-ℤ◌}
use Rattle.laws.specs.Choice.{pick, both, either, opposite}
use Rattle.laws.proofs.Choice.{both_left, both_right, either_right, true-T, T_true, true-false}
use Rattle.laws.specs.Table.{all_b}
use Rattle.laws.proofs.Table.{all_at}
use Rattle.bits.specs.Bits.{Bit, bits_of}
use Rattle.bits.specs.Code.{word_of}
use Rattle.bits.specs.Appended.{FieldFits, WroteBits, CountablePlace}
use Rattle.bits.proofs.Appended.{wrote_as, wrote_then, first_countable, then_countable, sent_counts, sent_wrote, CountableParts}
use Rattle.h261_words.specs.Tables.{table1, table2, table3, table4}
use Rattle.h261_words.specs.Words.{is_intra, is_mc, has_mquant, has_cbp}
use Rattle.h261_words.specs.Written.{MeaningAsked}
use Rattle.h261_groups.specs.declared.Format.{Format}
use Rattle.layout.specs.Value.{Vector, zero_vector}
use Rattle.h261_description.specs.Vector.{Before, in_range, in_picture, restarts, preceding}
use Rattle.layout.specs.Flat.{number_of, byte_vector, gathers, vector_in, macroblock_in}
use Rattle.layout.specs.Numbers.{all, is_zero, is_quantiser, is_level, codes_first}
use Rattle.h261_description.proofs.Levels.{all_levels}
use Rattle.h261_description.specs.Valid.{valid_vector, valid_levels, valid_macroblock}
use Rattle.bits.specs.Write.{bits_if}
use Rattle.layout.specs.Pattern.{pattern_of}
use Rattle.h261_writer.specs.Write.{component_bits, vector_bits, blocks_of, macroblock_of}
use Rattle.h261_writer.specs.Asked.{ComponentAsked, ComponentsAsked, VectorAsked, PatternAsked, BlocksAsked, MacroblockAsked}
use Rattle.h261_writer.specs.Sound.{NearComponent, SoundMacroblock, before_in}
use Rattle.h261_writer.proofs.BlockTurn.{pattern_some, pattern_low}

-- ---- one component: a computed test over all pairs of numbers in -15..15
abbrev near : ℕ → ℕ
near k = (k + 241) % 256

abbrev sent_for : ℕ → ℕ → ℕ
sent_for p b = nat_abs ((number_of b -ℤ number_of p) +ℤ pos 48) % 32

abbrev placed : ℕ → Bool
placed b = either (opposite (in_range (number_of b))) (both (ltb ((b + 15) % 256) 31) (eqb (near ((b + 15) % 256)) b))

all_placed : T (all_b 256 placed)
all_placed = tt

abbrev agrees : ℕ → ℕ → Bool
agrees p b = eqb (sent_for (near p) (near b)) ((near b + 304 - near p) % 32)

all_agree : T (all_b 31 (λ p. all_b 31 (λ b. agrees p b)))
all_agree = tt

kept : (b : ℕ) → b < 256 → NearComponent b → ((b + 15) % 256 < 31) × (near ((b + 15) % 256) ≡ b)
kept b l n =
    let t = either_right (opposite (in_range (number_of b))) _ (ap opposite (T_true (in_range (number_of b)) n)) (all_at 256 placed all_placed b l) in
    let x = ltb ((b + 15) % 256) 31 in
    let y = eqb (near ((b + 15) % 256)) b in
    (ltb→lt ((b + 15) % 256) 31 (both_left x y t), eqb→eq (near ((b + 15) % 256)) b (both_right x y t))

pub difference : (p b : ℕ) → p < 256 → b < 256 → NearComponent p → NearComponent b → (b + 304 - p) % 32 ≡ nat_abs ((number_of b -ℤ number_of p) +ℤ pos 48) % 32
difference p b l h m n =
    let i = kept p l m in
    let j = kept b h n in
    let t = all_at 31 (λ b. agrees ((p + 15) % 256) b) (all_at 31 (λ p. all_b 31 (λ b. agrees p b)) all_agree ((p + 15) % 256) i.0) ((b + 15) % 256) j.0 in
    sym (subst (λ (x : ℕ). sent_for x b ≡ (b + 304 - x) % 32) i.1
    (subst (λ (y : ℕ). sent_for (near ((p + 15) % 256)) y ≡ (y + 304 - near ((p + 15) % 256)) % 32) j.1
    (eqb→eq _ _ t)))

-- so the component's codeword is that of the difference
pub difference_counts : {t : List ℕ} {p b at : ℕ} → p < 256 → b < 256 → ComponentAsked t p b at → CountablePlace at (word_of table3 ((b + 304 - p) % 32))
difference_counts {p = p} {b = b} {at = at} l h a = subst (λ (n : ℕ). CountablePlace at (word_of table3 n)) (sym (difference p b l h a.preceding_near a.near)) a.counts

-- ---- the vector against the preceding one
module _ (b : Bool) (before : Before) (step : ℕ) (v p : Vector) {at : ℕ} (e : b ≡ true) (d : preceding before step ≡ p) where
  pub pointing_counts : CountablePlace at (bits_if b (vector_bits (preceding before step) v)) → CountablePlace at (vector_bits p v)
  pointing_counts n = subst (λ (x : Vector). CountablePlace at (vector_bits x v)) d (sent_counts b e n)

  pub pointing : {s t : List ℕ} {q : ℕ} → WroteBits (vector_bits p v) s at t q → WroteBits (bits_if b (vector_bits (preceding before step) v)) s at t q
  pointing w = sent_wrote b e (wrote_as w (ap (λ (x : Vector). vector_bits x v) (sym d)))

-- MQUANT has five bits
pub quantiser_fits : (type q : ℕ) → T (pick (has_mquant type) (is_quantiser q) (is_zero q)) → FieldFits 5 q
quantiser_fits type q t = record { some = lit≤ tt; short = lit≤ tt; small = go (has_mquant type) t }
  where
    go : (b : Bool) → T (pick b (is_quantiser q) (is_zero q)) → q < 2 ^ 5
    go true t = let l : q ≤ 31 = leb→le q 31 (both_right (leb 1 q) (leb q 31) t) in omega arith
    go false t = let l : q ≡ 0 = eqb→eq q 0 t in omega arith

-- a pattern is 1 to 63 where the type has CBP
pattern_sent : (type : ℕ) (levels : List ℕ) → length levels ≡ 384 → T (valid_levels type levels) → has_cbp type ≡ true → 1 ≤ pattern_of (gathers 6 levels)
pattern_sent type levels h t e = go (is_intra type) (intra_not type e) t
  where
    one_or_other : (a b : Bool) → T (either a (either b false)) → T a ⊎ T b
    one_or_other true b t = inl tt
    one_or_other false true t = inr tt
    one_or_other false false t = absurd t

    no_cbp : (type k : ℕ) → has_cbp k ≡ false → type ≡ k → has_cbp type ≡ true → ⊥
    no_cbp type k f i e = true-false (sym e ∙ ap has_cbp i ∙ f)

    intra_not : (type : ℕ) → has_cbp type ≡ true → is_intra type ≡ false
    intra_not type e = case (is_intra type) refl
      where
        case : (b : Bool) → is_intra type ≡ b → b ≡ false
        case true i =
            absurd (⊎_elim (λ t. no_cbp type 1 refl (eqb→eq type 1 t) e) (λ t. no_cbp type 2 refl (eqb→eq type 2 t) e)
            (one_or_other (eqb type 1) (eqb type 2) (true-T (is_intra type) i)))
        case false i = refl

    go : (b : Bool) → b ≡ false → T (pick b (both (all is_level levels) (codes_first 6 levels)) (pick (has_cbp type) (both (all is_level levels) (opposite (all is_zero levels))) (all is_zero levels))) → 1 ≤ pattern_of (gathers 6 levels)
    go true n t = absurd (subst T n tt)
    go false n t =
        pattern_some levels h
        (both_right (all is_level levels) (opposite (all is_zero levels))
        (subst (λ (x : Bool). T (pick x (both (all is_level levels) (opposite (all is_zero levels))) (all is_zero levels))) e t))

pub pattern_word_asked : {t : List ℕ} {type : ℕ} {levels : List ℕ} {at n : ℕ} → PatternAsked t type levels at → has_cbp type ≡ true → n ≡ pattern_of (gathers 6 levels) → MeaningAsked t 63 n
pattern_word_asked {type = type} {levels = levels} a e i =
    record { tables = a.tables; some = omega (arith, pattern_sent type levels a.long a.levelled e); known = omega (arith, pattern_low levels) }

pub pattern_counts : {t : List ℕ} {type : ℕ} {levels : List ℕ} {at n : ℕ} → PatternAsked t type levels at → has_cbp type ≡ true → n ≡ pattern_of (gathers 6 levels) → CountablePlace at (word_of table4 n)
pattern_counts {type = type} {at = at} a e i = subst (λ (k : ℕ). CountablePlace at (word_of table4 k)) (sym i) (sent_counts (has_cbp type) e a.counts)

-- those of INTRA begin with codes
pub all_codes : (type : ℕ) (levels : List ℕ) (intra : Bool) → intra ≡ is_intra type → T (valid_levels type levels) → T (either (opposite intra) (codes_first 6 levels))
all_codes type levels intra e t = subst (λ (x : Bool). T (either (opposite x) (codes_first 6 levels))) (sym e) (go (is_intra type) t)
  where
    go : (a : Bool) → T (pick a (both (all is_level levels) (codes_first 6 levels)) (pick (has_cbp type) (both (all is_level levels) (opposite (all is_zero levels))) (all is_zero levels))) → T (either (opposite a) (codes_first 6 levels))
    go true t = both_right (all is_level levels) (codes_first 6 levels) t
    go false t = tt

-- ---- a vector: its two components, against the preceding vector or none
module _ {t : List ℕ} {horizontal vertical across down at : ℕ} (a : ComponentsAsked t horizontal vertical across down at) where
  abbrev across_bits : List Bit
  across_bits = component_bits (number_of horizontal) (number_of across)

  abbrev down_bits : List Bit
  down_bits = component_bits (number_of vertical) (number_of down)

  pub across_asked : ComponentAsked t horizontal across at
  across_asked = record { tables = a.tables; preceding_near = a.horizontal_near; near = a.across_near; counts = first_countable across_bits down_bits a.counts }

  pub down_asked : {s u : List ℕ} {p : ℕ} → WroteBits across_bits s at u p → ComponentAsked t vertical down p
  down_asked w = record { tables = a.tables; preceding_near = a.vertical_near; near = a.down_near; counts = then_countable w down_bits a.counts }

module _ {t : List ℕ} {kind last step horizontal vertical across down at : ℕ} (a : VectorAsked t kind last step horizontal vertical across down at) (e : is_mc kind ≡ true) where
  abbrev restarting : Bool
  restarting = restarts last step

  -- the components that precede
  pub zero_asked : restarting ≡ true → ComponentsAsked t 0 0 across down at
  zero_asked r = record {
    tables = a.tables;
    horizontal_near = tt;
    vertical_near = tt;
    across_near = a.across_near;
    down_near = a.down_near;
    counts = pointing_counts (is_mc kind) (before_in last horizontal vertical) step (byte_vector across down) zero_vector e (ap (λ (b : Bool). pick b zero_vector (byte_vector horizontal vertical)) r) a.counts;
  }

  pub own_asked : restarting ≡ false → ComponentsAsked t horizontal vertical across down at
  own_asked r = record {
    tables = a.tables;
    horizontal_near = a.horizontal_near;
    vertical_near = a.vertical_near;
    across_near = a.across_near;
    down_near = a.down_near;
    counts = pointing_counts (is_mc kind) (before_in last horizontal vertical) step (byte_vector across down) (byte_vector horizontal vertical) e (ap (λ (b : Bool). pick b zero_vector (byte_vector horizontal vertical)) r) a.counts;
  }

  pub zero_wrote : {s u : List ℕ} {q : ℕ} → restarting ≡ true → WroteBits (vector_bits zero_vector (byte_vector across down)) s at u q
      → WroteBits (bits_if (is_mc kind) (vector_bits (preceding (before_in last horizontal vertical) step) (byte_vector across down))) s at u q
  zero_wrote r w =
      pointing (is_mc kind) (before_in last horizontal vertical) step (byte_vector across down) zero_vector e (ap (λ (b : Bool). pick b zero_vector (byte_vector horizontal vertical)) r) w

  pub own_wrote : {s u : List ℕ} {q : ℕ} → restarting ≡ false → WroteBits (vector_bits (byte_vector horizontal vertical) (byte_vector across down)) s at u q
      → WroteBits (bits_if (is_mc kind) (vector_bits (preceding (before_in last horizontal vertical) step) (byte_vector across down))) s at u q
  own_wrote r w =
      pointing (is_mc kind) (before_in last horizontal vertical) step (byte_vector across down) (byte_vector horizontal vertical) e (ap (λ (b : Bool). pick b zero_vector (byte_vector horizontal vertical)) r) w

-- ---- the whole macroblock
module _ {t fields levels : List ℕ} {last address horizontal vertical at : ℕ} (a : MacroblockAsked t fields levels last address horizontal vertical at) where
  abbrev type : ℕ
  type = get_or fields 0 0

  abbrev before : Before
  before = before_in last horizontal vertical

  abbrev address_bits : List Bit
  address_bits = word_of table1 (address - last)

  abbrev type_bits : List Bit
  type_bits = word_of table2 type

  abbrev quantiser_bits : List Bit
  quantiser_bits = bits_if (has_mquant type) (bits_of 5 (get_or fields 1 0))

  abbrev pointing_bits : List Bit
  pointing_bits = bits_if (is_mc type) (vector_bits (preceding before (address - last)) (vector_in fields))

  abbrev pattern_bits : List Bit
  pattern_bits = bits_if (has_cbp type) (word_of table4 (pattern_of (gathers 6 levels)))

  abbrev blocks_bits : List Bit
  blocks_bits = blocks_of (is_intra type) (gathers 6 levels)

  pub macroblock_parts : CountableParts at (address_bits ∷ type_bits ∷ quantiser_bits ∷ pointing_bits ∷ pattern_bits ∷ blocks_bits ∷ [])
  unfolding macroblock_of
  macroblock_parts = record { counts = a.counts }

  pub address_asked : MeaningAsked t 35 (address - last)
  address_asked = record { tables = a.tables; some = omega (arith, a.after); known = omega (arith, a.inside) }

  pub type_asked : MeaningAsked t 10 type
  type_asked = record { tables = a.tables; some = a.sound.some; known = a.sound.known }

  pub vector_asked : {p : ℕ} → CountablePlace p pointing_bits → VectorAsked t type last (address - last) horizontal vertical (get_or fields 2 0) (get_or fields 3 0) p
  vector_asked n = record {
    tables = a.tables;
    inside = omega (arith, a.after, a.inside);
    horizontal_near = a.across_near;
    vertical_near = a.down_near;
    across_near = a.sound.across;
    down_near = a.sound.down;
    counts = n;
  }

  pub pattern_asked : {p : ℕ} → CountablePlace p pattern_bits → PatternAsked t type levels p
  pattern_asked n = record { tables = a.tables; long = a.levels_long; levelled = a.sound.levelled; counts = n }

  module _ {intra : Bool} (i : intra ≡ is_intra type) where
    pub blocks_asked : {p : ℕ} → CountablePlace p blocks_bits → BlocksAsked t levels intra p
    blocks_asked {p} n = record {
      tables = a.tables;
      long = a.levels_long;
      allowed = all_levels type levels a.sound.levelled;
      coded = all_codes type levels intra i a.sound.levelled;
      counts = subst (λ (b : Bool). CountablePlace p (blocks_of b (gathers 6 levels))) (sym i) n;
    }

    pub macroblock_whole : {s : List ℕ} {t₁ t₂ t₃ t₄ t₅ t₆ : List ℕ} {p₁ p₂ p₃ p₄ p₅ p₆ : ℕ} → WroteBits address_bits s at t₁ p₁ → WroteBits type_bits t₁ p₁ t₂ p₂
        → WroteBits quantiser_bits t₂ p₂ t₃ p₃ → WroteBits pointing_bits t₃ p₃ t₄ p₄ → WroteBits pattern_bits t₄ p₄ t₅ p₅
        → WroteBits (blocks_of intra (gathers 6 levels)) t₅ p₅ t₆ p₆ → WroteBits (macroblock_of before (macroblock_in address fields levels)) s at t₆ p₆
    unfolding macroblock_of
    macroblock_whole a b c d e f =
        wrote_then a (wrote_then b (wrote_then c (wrote_then d (wrote_then e (wrote_as f (ap (λ (x : Bool). blocks_of x (gathers 6 levels)) i))))))

-- ---- a valid macroblock that is sent can be written
in_range_lem : (f : Format) (number address : ℕ) (fields : List ℕ) (mc : Bool)
    → T (pick mc (valid_vector f number address fields) (both (is_zero (get_or fields 2 0)) (is_zero (get_or fields 3 0)))) → NearComponent (get_or fields 2 0) × NearComponent (get_or fields 3 0)
in_range_lem f number address fields true t =
    let bytes = both (leb (get_or fields 2 0) 255) (leb (get_or fields 3 0) 255) in
    let x = in_range (number_of (get_or fields 2 0)) in
    let y = in_range (number_of (get_or fields 3 0)) in
    let inner : T (both (both x y) (in_picture f number address (vector_in fields))) = both_right bytes _ t in
    let r : T (both x y) = both_left (both x y) _ inner in
    (both_left x y r, both_right x y r)
in_range_lem f number address fields false t =
    let a : get_or fields 2 0 ≡ 0 = eqb→eq (get_or fields 2 0) 0 (both_left (is_zero (get_or fields 2 0)) (is_zero (get_or fields 3 0)) t) in
    let b : get_or fields 3 0 ≡ 0 = eqb→eq (get_or fields 3 0) 0 (both_right (is_zero (get_or fields 2 0)) (is_zero (get_or fields 3 0)) t) in
    (subst NearComponent (sym a) tt, subst NearComponent (sym b) tt)

pub sound : (f : Format) (number address : ℕ) (fields levels : List ℕ) → 1 ≤ get_or fields 0 0 → T (valid_macroblock f number address fields levels) → SoundMacroblock fields levels
unfolding valid_macroblock
sound f number address fields levels some t =
    let type = get_or fields 0 0 in
    let q = pick (has_mquant type) (is_quantiser (get_or fields 1 0)) (is_zero (get_or fields 1 0)) in
    let v = pick (is_mc type) (valid_vector f number address fields) (both (is_zero (get_or fields 2 0)) (is_zero (get_or fields 3 0))) in
    let a : T (both q (both v (valid_levels type levels))) = both_right (leb type 10) _ t in
    let b : T (both v (valid_levels type levels)) = both_right q _ a in
    let r = in_range_lem f number address fields (is_mc type) (both_left v (valid_levels type levels) b) in
    record {
      some = some;
      known = leb→le type 10 (both_left (leb type 10) (both q (both v (valid_levels type levels))) t);
      quantised = both_left q (both v (valid_levels type levels)) a;
      across = r.0;
      down = r.1;
      levelled = both_right v (valid_levels type levels) b;
    }
