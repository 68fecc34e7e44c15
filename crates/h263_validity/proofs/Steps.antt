-- The tests of a description, on plain values. Assumes nothing.
use mathlib.Core.Path.{◌≡◌, refl, sym, ap, ap₂, ◌∙◌}
use mathlib.Core.Bool.{Bool, true, false}
use mathlib.Core.List.{List, [], ◌∷◌}
use Prim.Native.Nat.{ℕ, suc, ◌+◌, ◌-◌, ◌*◌, ◌≤◌, ◌<◌}
use native.Mathlib.Omega.{arith}
use borrow.Author.Tests.{lt-ltb, le-ltb, le-leb, lt-leb, eq-eqb, ne_eqb, ltb-true, ltb-false}
use lib.Dec.{leb, ltb, eqb, lit≤}
use lib.IntN.{ℤ, pos, negsuc, sub_ℕ, ◌+ℤ◌}
use lib.ListN.{length, get_or, take, drop}
use lib.Seq.{get_or-drop}
use Rattle.laws.specs.Choice.{pick, both, opposite}
use Rattle.laws.proofs.Choice.{crossed, stop, pass, true-T}
use Rattle.laws.proofs.Integer.{sub_below}
use Rattle.size.specs.declared.Size.{Size}
use Rattle.size.specs.declared.Size.TheVariants.{SubQcif, Qcif, Cif}
use Rattle.size.specs.Size.{width, height}
use Rattle.size.specs.Place.{macroblocks_across, macroblocks_down}
use Rattle.layout.specs.Flat.{number_of, flat}
use Rattle.layout.specs.Numbers.{all, within, is_zero, is_level, codes_first}
use Rattle.layout.specs.Valid.{every_macroblock, Lengths}
use Rattle.layout.proofs.LaidOut.{has_lengths_lem}
use Rattle.layout.proofs.Turns.{group_part, GroupWithin, group_within}
use Rattle.h263_words.specs.Words.{is_intra, is_inter, has_dquant, is_dquant}
use Rattle.h263_description.specs.Vector.{between, in_range, inside, row, column}
use Rattle.h263_description.specs.Value.{group_numbers, shape, macroblocks_length, levels_length}
use Rattle.h263_description.specs.Fields.{refresh}
use Rattle.h263_description.specs.Valid.{valid_vector, valid_levels, valid_type, valid_macroblock, valid_groups, lengths_of, valid_gquants, valid_head, valid}
use Rattle.h263_description.proofs.Groups.{number_at, some_down}

-- ---- a number, n, that a call gives for m
pub equal_to : (a : ℕ) {n m : ℕ} → n ≡ m → a ≡ n → eqb a m ≡ true
equal_to a {n} {m} e f = eq-eqb a m (f ∙ e)

pub other_than : (a : ℕ) {n m : ℕ} → n ≡ m → (a ≡ n → ⊥) → eqb a m ≡ false
other_than a {n} {m} e f = ne_eqb a m (λ x. f (x ∙ sym e))

-- ---- a GQUANT
pub gquant_low : (q : ℕ) → q ≤ 31 → within 0 31 q ≡ true
gquant_low q l = (λ i. both (le-leb 0 q (omega arith) i) (le-leb q 31 l i))

pub gquant_high : (q : ℕ) → 31 < q → within 0 31 q ≡ false
gquant_high q l = (λ i. both (le-leb 0 q (omega arith) i) (lt-leb q 31 l i))

-- ---- a component
at_most : (last x : ℕ) → leb x last ≡ between (pos 0) (pos last) (pos x)
at_most last x = go (ltb last x) refl ∙ sym (ap (λ (b : Bool). both (opposite b) (opposite (ltb last x))) (le-ltb x 0 (omega arith)))
  where
    go : (b : Bool) → ltb last x ≡ b → leb x last ≡ opposite (ltb last x)
    go true e = lt-leb x last (ltb-true last x e) ∙ sym (ap opposite e)
    go false e = le-leb x last (ltb-false last x e) ∙ sym (ap opposite e)

abbrev fitting : ℤ → ℕ → ℕ → Bool
fitting z start last = both (in_range z) (between (pos 0) (pos last) (pos start +ℤ z))

number_low : (n : ℕ) → n < 128 → number_of n ≡ pos n
number_low n l = rw (lt-ltb n 128 l)

number_high : (n : ℕ) → 128 ≤ n → number_of n ≡ negsuc (256 - suc n)
number_high n l = rw (le-ltb n 128 l)

-- in range by its size
ahead_in : (n : ℕ) (b : Bool) → ltb 31 n ≡ b → in_range (pos n) ≡ opposite b
ahead_in n b e = ap opposite e

back_in : (n : ℕ) (b : Bool) → ltb 31 n ≡ b → in_range (negsuc n) ≡ opposite b
back_in n true e = ap (λ (t : Bool). both (opposite t) true) e
back_in n false e = ap (λ (t : Bool). both (opposite t) true) e

module _ (n start last : ℕ) where
  pub component_ahead : n ≤ 31 → leb (start + n) last ≡ both (in_range (number_of n)) (between (pos 0) (pos last) (pos start +ℤ number_of n))
  component_ahead l =
      at_most last (start + n) ∙ sym (ap (λ (b : Bool). both b (between (pos 0) (pos last) (pos (start + n)))) (ahead_in n false (le-ltb 31 n l)))
      ∙ ap (λ (z : ℤ). fitting z start last) (sym (number_low n (omega arith)))

  pub component_out : 31 < n → n < 224 → false ≡ both (in_range (number_of n)) (between (pos 0) (pos last) (pos start +ℤ number_of n))
  component_out l h = go (ltb n 128) refl
    where
      go : (b : Bool) → ltb n 128 ≡ b → false ≡ fitting (number_of n) start last
      go true e =
          sym (ap (λ (b : Bool). both b (between (pos 0) (pos last) (pos start +ℤ pos n))) (ahead_in n true (lt-ltb 31 n l)))
          ∙ ap (λ (z : ℤ). fitting z start last) (sym (number_low n (ltb-true n 128 e)))
      go false e =
          let far : 31 < 256 - suc n = omega arith in
          sym (ap (λ (b : Bool). both b (between (pos 0) (pos last) (pos start +ℤ negsuc (256 - suc n)))) (back_in (256 - suc n) true (lt-ltb 31 (256 - suc n) far)))
          ∙ ap (λ (z : ℤ). fitting z start last) (sym (number_high n (ltb-false n 128 e)))

  module _ (l : 224 ≤ n) (h : n < 256) where
    -- 256 - n back
    component_behind : (b : Bool) → between (pos 0) (pos last) (sub_ℕ start (256 - n)) ≡ b → b ≡ fitting (number_of n) start last
    component_behind b e =
        let near : 256 - suc n ≤ 31 = omega arith in
        let back : 256 - n ≡ suc (256 - suc n) = omega arith in
        sym e ∙ ap (λ (k : ℕ). between (pos 0) (pos last) (sub_ℕ start k)) back
        ∙ sym (ap (λ (b : Bool). both b (between (pos 0) (pos last) (pos start +ℤ negsuc (256 - suc n)))) (back_in (256 - suc n) false (le-ltb 31 (256 - suc n) near)))
        ∙ ap (λ (z : ℤ). fitting z start last) (sym (number_high n (omega arith)))

    pub component_short : start < 256 - n → false ≡ both (in_range (number_of n)) (between (pos 0) (pos last) (pos start +ℤ number_of n))
    component_short s =
        let under : sub_ℕ start (256 - n) ≡ negsuc (256 - n - suc start) = rw (lt-ltb start (256 - n) s) in
        component_behind false (ap (between (pos 0) (pos last)) under)

    pub component_back : 256 - n ≤ start → leb (start - (256 - n)) last ≡ both (in_range (number_of n)) (between (pos 0) (pos last) (pos start +ℤ number_of n))
    component_back s =
        at_most last (start - (256 - n))
        ∙ component_behind (between (pos 0) (pos last) (pos (start - (256 - n)))) (ap (between (pos 0) (pos last)) (sub_below start (256 - n) s))

-- ---- a vector: where the type has one, and where it hasn't
module _ (size : Size) (number address : ℕ) (fields : List ℕ) where
  abbrev ruled : Bool → Bool
  ruled inter = pick inter (valid_vector size number address fields) (both (is_zero (get_or fields 2 0)) (is_zero (get_or fields 3 0)))

  abbrev horizontally : ℕ → Bool
  horizontally end = both (in_range (number_of (get_or fields 2 0))) (inside end (column address) (number_of (get_or fields 2 0)))

  abbrev vertically : ℕ → Bool
  vertically end = both (in_range (number_of (get_or fields 3 0))) (inside end (row number) (number_of (get_or fields 3 0)))

  cross : (p q : Bool) → get_or fields 2 0 < 256 → get_or fields 3 0 < 256 → horizontally (width size) ≡ p → vertically (height size) ≡ q → ruled true ≡ both p q
  cross p q l h a b =
      let l' : get_or fields 2 0 ≤ 255 = omega arith in
      let h' : get_or fields 3 0 ≤ 255 = omega arith in
      rw (le-leb (get_or fields 2 0) 255 l', le-leb (get_or fields 3 0) 255 h')
      (sym (crossed (in_range (number_of (get_or fields 2 0))) (in_range (number_of (get_or fields 3 0))) (inside (width size) (column address) (number_of (get_or fields 2 0))) (inside (height size) (row number) (number_of (get_or fields 3 0))))
      ∙ ap₂ both a b)

  module _ (inter : Bool) (e : inter ≡ is_inter (get_or fields 0 0)) (t : inter ≡ true) (l : get_or fields 2 0 < 256) (h : get_or fields 3 0 < 256) where
    pub vector_no : (w : ℕ) (r : Bool) → w ≡ width size → r ≡ horizontally w → r ≡ false → false ≡ ruled (is_inter (get_or fields 0 0))
    vector_no w r s a n = sym (ap ruled (sym e ∙ t) ∙ cross false (vertically (height size)) l h (ap horizontally (sym s) ∙ sym a ∙ n) refl)

    pub vector_yes : (w v : ℕ) (r q : Bool) → w ≡ width size → r ≡ horizontally w → r ≡ true → v ≡ height size → q ≡ vertically v → q ≡ ruled (is_inter (get_or fields 0 0))
    vector_yes w v r q s a n u b =
        sym (ap ruled (sym e ∙ t) ∙ cross true q l h (ap horizontally (sym s) ∙ sym a ∙ n) (ap vertically (sym u) ∙ sym b))

  module _ (inter : Bool) (e : inter ≡ is_inter (get_or fields 0 0)) (t : inter ≡ false) where
    pub still_no : (get_or fields 2 0 ≡ 0 → ⊥) → false ≡ ruled (is_inter (get_or fields 0 0))
    still_no n = sym (ap ruled (sym e ∙ t) ∙ ap (λ (b : Bool). both b (is_zero (get_or fields 3 0))) (ne_eqb (get_or fields 2 0) 0 n))

    pub still_yes : get_or fields 2 0 ≡ 0 → eqb (get_or fields 3 0) 0 ≡ ruled (is_inter (get_or fields 0 0))
    still_yes n = sym (ap ruled (sym e ∙ t) ∙ ap (λ (b : Bool). both b (is_zero (get_or fields 3 0))) (eq-eqb (get_or fields 2 0) 0 n))

-- sizes are small, and a macroblock's side at least
pub sides : (size : Size) → ((16 ≤ width size) × (width size ≤ 65535)) × ((16 ≤ height size) × (height size ≤ 65535))
sides SubQcif = ((lit≤ tt, lit≤ tt), (lit≤ tt, lit≤ tt))
sides Qcif = ((lit≤ tt, lit≤ tt), (lit≤ tt, lit≤ tt))
sides Cif = ((lit≤ tt, lit≤ tt), (lit≤ tt, lit≤ tt))

-- ---- levels by their type
module _ (type : ℕ) (levels : List ℕ) where
  abbrev of : Bool → Bool → Bool → Bool
  of intra inter good = pick intra (both good (codes_first 6 levels)) (pick inter good (all is_zero levels))

  pub intra_yes : is_intra type ≡ true → all is_level levels ≡ true → (r : Bool) → r ≡ codes_first 6 levels → r ≡ valid_levels type levels
  intra_yes a b r e = e ∙ sym (λ i. of (a i) (is_inter type) (b i))

  pub intra_no : is_intra type ≡ true → all is_level levels ≡ false → false ≡ valid_levels type levels
  intra_no a b = sym (λ i. of (a i) (is_inter type) (b i))

  module _ (a : is_intra type ≡ false) where
    pub inter_any : is_inter type ≡ true → (r : Bool) → r ≡ all is_level levels → r ≡ valid_levels type levels
    inter_any c r e = e ∙ sym (λ i. of (a i) (c i) (all is_level levels))

    pub unsent_none : is_inter type ≡ false → (r : Bool) → r ≡ all is_zero levels → r ≡ valid_levels type levels
    unsent_none c r e = e ∙ sym (λ i. of (a i) (c i) (all is_level levels))

-- ---- a macroblock: its tests one after another
module _ (size : Size) (intra : Bool) (number address : ℕ) (fields levels : List ℕ) where
  abbrev quantised : Bool
  quantised = pick (has_dquant (get_or fields 0 0)) (is_dquant (get_or fields 1 0)) (is_zero (get_or fields 1 0))

  pub macroblock_is : {r : Bool}
      → r ≡ both (valid_type intra (get_or fields 0 0)) (both quantised (both (ruled size number address fields (is_inter (get_or fields 0 0))) (valid_levels (get_or fields 0 0) levels)))
      → r ≡ valid_macroblock size intra number address fields levels
  unfolding valid_macroblock
  macroblock_is e = e

-- a test that a call has made
pub tested : {r b t : Bool} → r ≡ b → r ≡ t → b ≡ t
tested e f = sym e ∙ f

-- ---- a refresh
pub type_there : (head : List ℕ) → eqb (get_or head 3 0) 0 ≡ refresh (flat head [] [])
unfolding refresh
type_there head = refl

pub type_missing : (head : List ℕ) → length head < 4 → true ≡ refresh (flat head [] [])
unfolding refresh
type_missing [] l = refl
type_missing (a ∷ []) l = refl
type_missing (a ∷ b ∷ []) l = refl
type_missing (a ∷ b ∷ c ∷ []) l = refl
type_missing (a ∷ b ∷ c ∷ d ∷ head) l = absurd (omega arith)

-- ---- the head
pub byte_most : (n : ℕ) → n < 256 → leb n 255 ≡ true
byte_most n l = le-leb n 255 (omega arith)

-- the first GQUANT, past the five fields
first_gquant : (head : List ℕ) → get_or (drop 5 head) 0 0 ≡ get_or head 5 0
first_gquant head = get_or-drop 5 head 0 0

module _ (head : List ℕ) where
  pub gquant_first : (get_or head 5 0 ≡ 0 → ⊥) → false ≡ valid_gquants (drop 5 head)
  gquant_first n = stop _ (ap is_zero (first_gquant head) ∙ ne_eqb (get_or head 5 0) 0 n)

  pub gquants_rest : get_or head 5 0 ≡ 0 → {r : Bool} → r ≡ all (within 0 31) (drop 5 head) → r ≡ valid_gquants (drop 5 head)
  gquants_rest e = pass (ap is_zero (first_gquant head ∙ e))

-- ---- the groups
module _ (size : Size) (fields levels : List ℕ) (g : ℕ) {each : ℕ} (e : each ≡ macroblocks_across size) where
  -- a group's parts lie in the lists
  pub parts_within : {count : ℕ} → length fields ≡ macroblocks_length size → length levels ≡ levels_length size → count ≡ macroblocks_down size → g < count → GroupWithin each g fields levels
  parts_within a b d l = group_within (a ∙ sym (λ i. d i * (e i * 4))) (b ∙ sym (λ i. d i * (e i * 384))) l

  -- and are what is tested
  pub part_tested : (intra r : Bool) → g < macroblocks_down size
      → r ≡ every_macroblock (valid_macroblock size intra g) (macroblocks_across size) 1 (take (length fields - g * (each * 4)) (drop (g * (each * 4)) fields)) (take (length levels - g * (each * 384)) (drop (g * (each * 384)) levels))
      → r ≡ every_macroblock (valid_macroblock size intra (get_or (group_numbers size) g 0)) (macroblocks_across size) 1 (drop (g * (macroblocks_across size * 4)) fields) (drop (g * (macroblocks_across size * 384)) levels)
  part_tested intra r l m =
      group_part (macroblocks_across size) (valid_macroblock size intra) fields levels (g * (each * 4)) (g * (each * 384)) (get_or (group_numbers size) g 0) g r (sym (number_at size g l)) m
      ∙ (λ i. every_macroblock (valid_macroblock size intra (get_or (group_numbers size) g 0)) (macroblocks_across size) 1 (drop (g * (e i * 4)) fields) (drop (g * (e i * 384)) levels))

-- ---- the whole
module _ (size : Size) (head macroblocks levels : List ℕ) where
  pub valid_is : {r : Bool} → r ≡ both (lengths_of size (flat head macroblocks levels)) (both (valid_head size head) (valid_groups size (eqb (get_or head 3 0) 0) (group_numbers size) macroblocks levels))
      → r ≡ valid size (flat head macroblocks levels)
  unfolding valid
  valid_is e = e

  -- what the lengths are where they pass
  pub lengths_are : lengths_of size (flat head macroblocks levels) ≡ true → Lengths (shape size) (flat head macroblocks levels)
  lengths_are e = has_lengths_lem (shape size) (flat head macroblocks levels) (true-T (lengths_of size (flat head macroblocks levels)) e)

  pub head_long : lengths_of size (flat head macroblocks levels) ≡ true → 6 ≤ length head
  head_long e = omega (arith, (lengths_are e).head_length, some_down size)
