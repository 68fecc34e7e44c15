-- The tests of a description, and the loops over them, on plain values. Assumes nothing.
use mathlib.Core.Path.{◌≡◌, refl, sym, ap, ap₂, ◌∙◌}
use mathlib.Core.Bool.{Bool, true, false}
use mathlib.Core.List.{List}
use Prim.Native.Nat.{ℕ, suc, ◌+◌, ◌-◌, ◌*◌, ◌≤◌, ◌<◌}
use native.Mathlib.Omega.{arith}
use native.Mathlib.Nat.{add-zero}
use borrow.Author.Tests.{lt-ltb, le-ltb, le-leb, lt-leb, eq-eqb, ne_eqb}
use lib.Dec.{T, leb, ltb, eqb, eqb→eq, lit≤}
use Rattle.h261_words.specs.Words.{is_intra, is_mc, has_mquant, has_cbp}
use lib.ListN.{length, get_or, drop}
use lib.IntN.{ℤ, pos, negsuc, nat_abs}
use Rattle.laws.specs.Choice.{pick, both, opposite}
use Rattle.laws.proofs.Choice.{both_left, both_right, true-T, crossed}
use Rattle.h261_groups.specs.Format.{format_bit, group_numbers, group_count, column, row, head_length, macroblocks_length, levels_length, size_of}
use Rattle.size.specs.Size.{width, height}
use Rattle.h261_groups.specs.declared.Format.{Format}
use Rattle.h261_groups.specs.declared.Format.TheVariants.{Qcif, Cif}
use Rattle.h261_groups.proofs.Room.{groups_most}
use Rattle.h261_description.specs.Vector.{in_range, inside}
use Rattle.layout.specs.Flat.{number_of, flat}
use Rattle.layout.specs.Numbers.{all, is_zero, is_quantiser, is_level, codes_first}
use Rattle.h261_description.specs.Valid.{valid_vector, valid_levels, valid_macroblock, valid_groups, lengths_of, valid_head, valid}

-- ---- a component
number_low : (n : ℕ) → n < 128 → number_of n ≡ pos n
number_low n l = rw (lt-ltb n 128 l)

number_high : (n : ℕ) → 128 ≤ n → number_of n ≡ negsuc (256 - suc n)
number_high n l = rw (le-ltb n 128 l)

abbrev fitting : ℤ → ℕ → ℕ → Bool
fitting z from end = both (in_range z) (inside end from z)

pub component_ahead : (n from end : ℕ) → n ≤ 15 → leb (from + n + 16) end ≡ both (in_range (number_of n)) (inside end from (number_of n))
component_ahead n from end l =
    let a : n < 128 = omega arith in
    let z : 0 ≤ from = omega arith in
    let go : leb (from + n + 16) end ≡ fitting (pos n) from end = rw (le-leb n 15 l, le-leb 0 from z, add-zero end) in
    go ∙ ap (λ (z : ℤ). fitting z from end) (sym (number_low n a))

pub component_out : (n from end : ℕ) → 15 < n → n ≤ 240 → false ≡ both (in_range (number_of n)) (inside end from (number_of n))
component_out n from end l h = go (ltb n 128) refl
  where
    far : 15 < nat_abs (negsuc (256 - suc n))
    far = omega arith

    go : (b : Bool) → ltb n 128 ≡ b → false ≡ fitting (number_of n) from end
    go true e =
        let c : false ≡ fitting (pos n) from end = rw (lt-leb n 15 l) in
        let z : number_of n ≡ pos n = rw e in
        c ∙ ap (λ (z : ℤ). fitting z from end) (sym z)
    go false e =
        let c : false ≡ fitting (negsuc (256 - suc n)) from end = rw (lt-leb (nat_abs (negsuc (256 - suc n))) 15 far) in
        let z : number_of n ≡ negsuc (256 - suc n) = rw e in
        c ∙ ap (λ (z : ℤ). fitting z from end) (sym z)

module _ (n from end : ℕ) (l : 240 < n) (h : n < 256) where
  back_is : suc (256 - suc n) ≡ 256 - n
  back_is = omega arith

  component_behind : (b : ℕ) → b ≡ 256 - n → fitting (number_of n) from end ≡ both (leb b from) (leb (from + 16) (end + b))
  component_behind b e =
      let a : 128 ≤ n = omega arith in
      let s : suc (256 - suc n) ≤ 15 = omega arith in
      let z : from + 0 + 16 ≡ from + 16 = omega arith in
      let go : fitting (negsuc (256 - suc n)) from end ≡ both (leb (suc (256 - suc n)) from) (leb (from + 0 + 16) (end + suc (256 - suc n))) = rw (le-leb (suc (256 - suc n)) 15 s) in
      ap (λ (z : ℤ). fitting z from end) (number_high n a) ∙ go
      ∙ (λ i. both (leb (back_is i) from) (leb (z i) (end + back_is i)))
      ∙ ap (λ (b : ℕ). both (leb b from) (leb (from + 16) (end + b))) (sym e)

  pub component_short : from < 256 - n → false ≡ both (in_range (number_of n)) (inside end from (number_of n))
  component_short s = sym (component_behind (256 - n) refl ∙ ap (λ (b : Bool). both b (leb (from + 16) (end + (256 - n)))) (lt-leb (256 - n) from s))

  pub component_back : 256 - n ≤ from → leb (from + 16) (end + (256 - n)) ≡ both (in_range (number_of n)) (inside end from (number_of n))
  component_back s = sym (component_behind (256 - n) refl ∙ ap (λ (b : Bool). both b (leb (from + 16) (end + (256 - n)))) (le-leb (256 - n) from s))

-- ---- a vector: where the type has one, and where it hasn't
module _ (f : Format) (number address : ℕ) (fields : List ℕ) where
  abbrev ruled : Bool → Bool
  ruled mc = pick mc (valid_vector f number address fields) (both (is_zero (get_or fields 2 0)) (is_zero (get_or fields 3 0)))

  abbrev horizontally : ℕ → Bool
  horizontally end = both (in_range (number_of (get_or fields 2 0))) (inside end (column number address) (number_of (get_or fields 2 0)))

  abbrev vertically : ℕ → Bool
  vertically end = both (in_range (number_of (get_or fields 3 0))) (inside end (row number address) (number_of (get_or fields 3 0)))

  cross : (p q : Bool) → get_or fields 2 0 < 256 → get_or fields 3 0 < 256 → horizontally (width (size_of f)) ≡ p → vertically (height (size_of f)) ≡ q → ruled true ≡ both p q
  cross p q l h a b =
      let l' : get_or fields 2 0 ≤ 255 = omega arith in
      let h' : get_or fields 3 0 ≤ 255 = omega arith in
      rw (le-leb (get_or fields 2 0) 255 l', le-leb (get_or fields 3 0) 255 h')
      (sym (crossed (in_range (number_of (get_or fields 2 0))) (in_range (number_of (get_or fields 3 0))) (inside (width (size_of f)) (column number address) (number_of (get_or fields 2 0))) (inside (height (size_of f)) (row number address) (number_of (get_or fields 3 0))))
      ∙ ap₂ both a b)

  module _ (mc : Bool) (e : mc ≡ is_mc (get_or fields 0 0)) (l : get_or fields 2 0 < 256) (h : get_or fields 3 0 < 256) where
    pub vector_no : (w : ℕ) (r : Bool) → mc ≡ true → w ≡ width (size_of f) → r ≡ horizontally w → r ≡ false → false ≡ ruled (is_mc (get_or fields 0 0))
    vector_no w r t s a n =
        sym (ap ruled (sym e ∙ t) ∙ cross false (vertically (height (size_of f))) l h (ap horizontally (sym s) ∙ sym a ∙ n) refl)

    pub vector_yes : (w v : ℕ) (r q : Bool) → mc ≡ true → w ≡ width (size_of f) → r ≡ horizontally w → r ≡ true → v ≡ height (size_of f) → q ≡ vertically v → q ≡ ruled (is_mc (get_or fields 0 0))
    vector_yes w v r q t s a n u b =
        sym (ap ruled (sym e ∙ t) ∙ cross true q l h (ap horizontally (sym s) ∙ sym a ∙ n) (ap vertically (sym u) ∙ sym b))

  module _ (mc : Bool) (e : mc ≡ is_mc (get_or fields 0 0)) (t : mc ≡ false) where
    pub still_no : (get_or fields 2 0 ≡ 0 → ⊥) → false ≡ ruled (is_mc (get_or fields 0 0))
    still_no n = sym (ap ruled (sym e ∙ t) ∙ ap (λ (b : Bool). both b (is_zero (get_or fields 3 0))) (ne_eqb (get_or fields 2 0) 0 n))

    pub still_yes : get_or fields 2 0 ≡ 0 → eqb (get_or fields 3 0) 0 ≡ ruled (is_mc (get_or fields 0 0))
    still_yes n = sym (ap ruled (sym e ∙ t) ∙ ap (λ (b : Bool). both b (is_zero (get_or fields 3 0))) (eq-eqb (get_or fields 2 0) 0 n))

-- sizes are small
pub sides : (f : Format) → (width (size_of f) ≤ 65535) × (height (size_of f) ≤ 65535)
sides Qcif = (lit≤ tt, lit≤ tt)
sides Cif = (lit≤ tt, lit≤ tt)

-- ---- levels by their type
module _ (type : ℕ) (levels : List ℕ) where
  abbrev of : Bool → Bool → Bool → Bool → Bool → Bool
  of intra coded good codes none = pick intra (both good codes) (pick coded (both good (opposite none)) none)

  pub intra_yes : is_intra type ≡ true → all is_level levels ≡ true → (r : Bool) → r ≡ codes_first 6 levels → r ≡ valid_levels type levels
  intra_yes a b r e = e ∙ sym (λ i. of (a i) (has_cbp type) (b i) (codes_first 6 levels) (all is_zero levels))

  pub intra_no : is_intra type ≡ true → all is_level levels ≡ false → false ≡ valid_levels type levels
  intra_no a b = sym (λ i. of (a i) (has_cbp type) (b i) (codes_first 6 levels) (all is_zero levels))

  module _ (a : is_intra type ≡ false) where
    pub coded_no : has_cbp type ≡ true → all is_level levels ≡ false → false ≡ valid_levels type levels
    coded_no c b = sym (λ i. of (a i) (c i) (b i) (codes_first 6 levels) (all is_zero levels))

    pub coded : has_cbp type ≡ true → all is_level levels ≡ true → (n : Bool) → all is_zero levels ≡ n → opposite n ≡ valid_levels type levels
    coded c b n z = sym (λ i. of (a i) (c i) (b i) (codes_first 6 levels) (z i))

    pub uncoded : has_cbp type ≡ false → (r : Bool) → r ≡ all is_zero levels → r ≡ valid_levels type levels
    uncoded c r e = e ∙ sym (λ i. of (a i) (c i) (all is_level levels) (codes_first 6 levels) (all is_zero levels))

-- ---- a macroblock
module _ (f : Format) (number address : ℕ) (fields levels : List ℕ) where
  abbrev quantised : Bool
  quantised = pick (has_mquant (get_or fields 0 0)) (is_quantiser (get_or fields 1 0)) (is_zero (get_or fields 1 0))

  abbrev pointed : Bool
  pointed = ruled f number address fields (is_mc (get_or fields 0 0))

  macroblock_is : valid_macroblock f number address fields levels ≡ both (leb (get_or fields 0 0) 10) (both quantised (both pointed (valid_levels (get_or fields 0 0) levels)))
  unfolding valid_macroblock
  macroblock_is = refl

  pub macroblock_type : 10 < get_or fields 0 0 → false ≡ valid_macroblock f number address fields levels
  macroblock_type l = sym (macroblock_is ∙ ap (λ (b : Bool). both b (both quantised (both pointed (valid_levels (get_or fields 0 0) levels)))) (lt-leb (get_or fields 0 0) 10 l))

  module _ (l : get_or fields 0 0 ≤ 10) (q : Bool) (qe : q ≡ quantised) where
    pub macroblock_mquant : q ≡ false → false ≡ valid_macroblock f number address fields levels
    macroblock_mquant n =
        sym (macroblock_is ∙ (λ i. both (le-leb (get_or fields 0 0) 10 l i) (both ((sym qe ∙ n) i) (both pointed (valid_levels (get_or fields 0 0) levels)))))

    module _ (qt : q ≡ true) (v : Bool) (ve : v ≡ pointed) where
      pub macroblock_vector : v ≡ false → false ≡ valid_macroblock f number address fields levels
      macroblock_vector n =
          sym (macroblock_is ∙ (λ i. both (le-leb (get_or fields 0 0) 10 l i) (both ((sym qe ∙ qt) i) (both ((sym ve ∙ n) i) (valid_levels (get_or fields 0 0) levels)))))

      pub macroblock_yes : v ≡ true → (r : Bool) → r ≡ valid_levels (get_or fields 0 0) levels → r ≡ valid_macroblock f number address fields levels
      macroblock_yes t r e =
          e ∙ sym (macroblock_is ∙ (λ i. both (le-leb (get_or fields 0 0) 10 l i) (both ((sym qe ∙ qt) i) (both ((sym ve ∙ t) i) (valid_levels (get_or fields 0 0) levels)))))

-- ---- the lengths, the head, the whole
module _ (f : Format) (head macroblocks levels : List ℕ) where
  module _ (n : ℕ) (e : n ≡ head_length f) where
    pub lengths_head : (length head ≡ n → ⊥) → false ≡ lengths_of f (flat head macroblocks levels)
    lengths_head other =
        sym (ap (λ (b : Bool). both b (both (eqb (length macroblocks) (macroblocks_length f)) (eqb (length levels) (levels_length f)))) (ne_eqb (length head) (head_length f) (λ x. other (x ∙ sym e))))

    module _ (l : length head ≡ n) (m : ℕ) (d : m ≡ macroblocks_length f) where
      first : eqb (length head) (head_length f) ≡ true
      first = eq-eqb (length head) (head_length f) (l ∙ e)

      pub lengths_macroblocks : (length macroblocks ≡ m → ⊥) → false ≡ lengths_of f (flat head macroblocks levels)
      lengths_macroblocks other =
          sym (λ i. both (first i) (both (ne_eqb (length macroblocks) (macroblocks_length f) (λ x. other (x ∙ sym d)) i) (eqb (length levels) (levels_length f))))

      pub lengths_levels : length macroblocks ≡ m → (k : ℕ) → k ≡ levels_length f → eqb (length levels) k ≡ lengths_of f (flat head macroblocks levels)
      lengths_levels h k g =
          ap (eqb (length levels)) g
          ∙ sym (λ i. both (first i) (both (eq-eqb (length macroblocks) (macroblocks_length f) (h ∙ d) i) (eqb (length levels) (levels_length f))))

  pub long : (r : Bool) → r ≡ lengths_of f (flat head macroblocks levels) → r ≡ true
      → (length head ≡ head_length f) × ((length macroblocks ≡ macroblocks_length f) × (length levels ≡ levels_length f))
  long r e t =
      let w : T (lengths_of f (flat head macroblocks levels)) = true-T (lengths_of f (flat head macroblocks levels)) (sym e ∙ t) in
      let a = eqb (length head) (head_length f) in
      let b = eqb (length macroblocks) (macroblocks_length f) in
      let c = eqb (length levels) (levels_length f) in (
        eqb→eq (length head) (head_length f) (both_left a (both b c) w),
        (eqb→eq (length macroblocks) (macroblocks_length f) (both_left b c (both_right a (both b c) w)), eqb→eq (length levels) (levels_length f) (both_right b c (both_right a (both b c) w))),
      )

  abbrev grouped : Bool
  grouped = valid_groups f (group_numbers f) macroblocks levels

  valid_is : valid f (flat head macroblocks levels) ≡ both (lengths_of f (flat head macroblocks levels)) (both (valid_head f head) grouped)
  unfolding valid
  valid_is = refl

  module _ (r : Bool) (e : r ≡ lengths_of f (flat head macroblocks levels)) where
    pub valid_lengths : r ≡ false → false ≡ valid f (flat head macroblocks levels)
    valid_lengths n = sym (valid_is ∙ ap (λ (b : Bool). both b (both (valid_head f head) grouped)) (sym e ∙ n))

    module _ (t : r ≡ true) (h : Bool) (d : h ≡ valid_head f head) where
      pub valid-headed : h ≡ false → false ≡ valid f (flat head macroblocks levels)
      valid-headed n = sym (valid_is ∙ (λ i. both ((sym e ∙ t) i) (both ((sym d ∙ n) i) grouped)))

      pub valid_yes : h ≡ true → (q : Bool) → q ≡ grouped → q ≡ valid f (flat head macroblocks levels)
      valid_yes n q g = g ∙ sym (valid_is ∙ (λ i. both ((sym e ∙ t) i) (both ((sym d ∙ n) i) grouped)))

module _ (f : Format) (head : List ℕ) where
  abbrev headed : Bool → Bool → Bool → Bool
  headed a b c = both a (both b (both c (all is_quantiser (drop 3 head))))

  pub head_tr : 31 < get_or head 0 0 → false ≡ valid_head f head
  head_tr l = sym (ap (λ (a : Bool). headed a (leb (get_or head 1 0) 7) (eqb (get_or head 2 0) (format_bit f))) (lt-leb (get_or head 0 0) 31 l))

  module _ (a : get_or head 0 0 ≤ 31) where
    pub head_ptype : 7 < get_or head 1 0 → false ≡ valid_head f head
    head_ptype l = sym (λ i. headed (le-leb (get_or head 0 0) 31 a i) (lt-leb (get_or head 1 0) 7 l i) (eqb (get_or head 2 0) (format_bit f)))

    module _ (b : get_or head 1 0 ≤ 7) (n : ℕ) (e : n ≡ format_bit f) where
      pub head_format : (get_or head 2 0 ≡ n → ⊥) → false ≡ valid_head f head
      head_format other =
          sym (λ i. headed (le-leb (get_or head 0 0) 31 a i) (le-leb (get_or head 1 0) 7 b i) (ne_eqb (get_or head 2 0) (format_bit f) (λ x. other (x ∙ sym e)) i))

      pub head_yes : get_or head 2 0 ≡ n → (r : Bool) → r ≡ all is_quantiser (drop 3 head) → r ≡ valid_head f head
      head_yes x r g =
          g ∙ sym (λ i. headed (le-leb (get_or head 0 0) 31 a i) (le-leb (get_or head 1 0) 7 b i) (eq-eqb (get_or head 2 0) (format_bit f) (x ∙ e) i))

-- ---- a group's parts lie in the lists
pub record GroupFits (g : ℕ) (fields levels : List ℕ) : Type 0 where
  pub low : g < 12
  pub fields_fit : g * 132 + 132 ≤ length fields
  pub levels_fit : g * 12672 + 12672 ≤ length levels

pub group_fits : (f : Format) {fields levels : List ℕ} {g count : ℕ}
    → length fields ≡ macroblocks_length f → length levels ≡ levels_length f → count ≡ group_count f → g < count → GroupFits g fields levels
group_fits f a b e h = record { low = omega (arith, groups_most f); fields_fit = omega arith; levels_fit = omega arith }
