-- What validity says of each group and of each macroblock, by its number in the picture. Assumes nothing.
use mathlib.Core.Path.{◌≡◌, ap, subst, ◌∙◌}
use mathlib.Core.Bool.{Bool, true, false}
use Prim.Native.Nat.{ℕ, ◌+◌, ◌-◌, ◌*◌, ◌/◌, ◌%◌, ◌≤◌, ◌<◌}
use native.Mathlib.Nat.{div-add-mod'}
use native.Mathlib.Omega.{arith}
use lib.Dec.{T, leb, leb→le, eqb→eq}
use lib.ListN.{get_or, length, drop, length-drop}
use lib.Seq.{get_or-take, get_or-drop}
use Rattle.laws.specs.Choice.{pick, both}
use Rattle.laws.proofs.Choice.{both_left, both_right, T_true, pick_yes, pick_no, both_three}
use Rattle.size.specs.declared.Size.{Size}
use Rattle.size.specs.Place.{macroblocks_across, macroblocks_down, own}
use Rattle.layout.specs.Value.{zero_vector}
use Rattle.layout.specs.Flat.{Flat, number_of, byte_vector}
use Rattle.layout.specs.Fields.{type_of, quant_of, horizontal_of, vertical_of, vector_at}
use Rattle.layout.specs.Numbers.{within, is_zero}
use Rattle.layout.proofs.Levels.{all_index}
use Rattle.layout.proofs.EveryAt.{fields_at, levels_at, every_at}
use Rattle.h263_words.specs.Words.{is_intra, is_inter, has_dquant, is_dquant}
use Rattle.h263_description.specs.Vector.{in_range, in_picture}
use Rattle.h263_description.specs.Value.{group_numbers}
use Rattle.h263_description.specs.Fields.{gquant_of, picture_type, is_intra_type, refresh}
use Rattle.h263_description.specs.Valid.{valid_type, valid_levels, valid_macroblock, valid}
use Rattle.h263_description.specs.Moved.{Aims}
use Rattle.h263_description.proofs.Groups.{groups_listed, number_at, row_in, column_in}
use Rattle.h263_description.proofs.Moved.{aims}
use Rattle.h263_description.proofs.Parts.{type_most, ValidParts, valid_parts, ValidLists, valid_lists}

-- ---- of a valid description
module _ (size : Size) (d : Flat) (t : T (valid size d)) where
  lists : ValidLists size d
  lists = valid_lists size d t

  pub head_length_lem : length d.head ≡ 5 + macroblocks_down size
  head_length_lem = lists.head_length

  pub macroblocks_length_lem : length d.macroblocks ≡ macroblocks_down size * (macroblocks_across size * 4)
  macroblocks_length_lem = lists.macroblocks_length

  pub levels_length_lem : length d.levels ≡ macroblocks_down size * (macroblocks_across size * 384)
  levels_length_lem = lists.levels_length

  pub gquant_at : (g : ℕ) → g < macroblocks_down size → gquant_of d g ≤ 31
  gquant_at g l =
      let q : T (within 0 31 (gquant_of d g)) =
      subst (λ (q : ℕ). T (within 0 31 q)) (get_or-drop 5 d.head g 0)
      (all_index (within 0 31) (drop 5 d.head) lists.gquants g (omega (arith, length-drop 5 d.head, head_length_lem))) in
      leb→le (gquant_of d g) 31 (both_right (leb 0 (gquant_of d g)) (leb (gquant_of d g) 31) q)

  pub macroblock_at_lem : (n : ℕ) → n < macroblocks_down size * macroblocks_across size
      → T (valid_macroblock size (is_intra_type (picture_type d)) (n / macroblocks_across size) (n % macroblocks_across size + 1) (fields_at d n) (levels_at d n))
  macroblock_at_lem n l =
      let across : ℕ = macroblocks_across size in
      let good = valid_macroblock size (is_intra_type (picture_type d)) in
      let r : n / across < macroblocks_down size = row_in size n l in
      coe 0 1 (i. T (good (number_at size (n / across) r i) (n % across + 1) (fields_at d (div-add-mod' n across i)) (levels_at d (div-add-mod' n across i))))
      (every_at across good (group_numbers size) d lists.groups (n / across) (n % across) (omega (arith, groups_listed size)) (column_in size n))

-- ---- of a macroblock
-- what validity says of macroblock n
pub record Fine (size : Size) (d : Flat) (n : ℕ) : Type 0 where
  pub kind : type_of d n ≤ 4
  pub intra : refresh d ≡ true → is_intra (type_of d n) ≡ true
  pub dquant : has_dquant (type_of d n) ≡ true → T (is_dquant (quant_of d n))
  pub unused : has_dquant (type_of d n) ≡ false → quant_of d n ≡ 0
  pub horizontally : is_inter (type_of d n) ≡ true → T (in_range (number_of (horizontal_of d n)))
  pub vertically : is_inter (type_of d n) ≡ true → T (in_range (number_of (vertical_of d n)))
  pub inside : is_inter (type_of d n) ≡ true → T (in_picture size (n / macroblocks_across size) (n % macroblocks_across size + 1) (vector_at d n))
  pub bytes : is_inter (type_of d n) ≡ true → (horizontal_of d n ≤ 255) × (vertical_of d n ≤ 255)
  pub still : is_inter (type_of d n) ≡ false → (horizontal_of d n ≡ 0) × (vertical_of d n ≡ 0)
  pub blocks : T (valid_levels (type_of d n) (levels_at d n))

module _ (size : Size) (d : Flat) (t : T (valid size d)) (n : ℕ) (l : n < macroblocks_down size * macroblocks_across size) where
  field_at : (k : ℕ) → k < 4 → get_or (fields_at d n) k 0 ≡ get_or d.macroblocks (n * 4 + k) 0
  field_at k m = get_or-take 4 (drop (n * 4) d.macroblocks) k 0 m ∙ get_or-drop (n * 4) d.macroblocks k 0

  first : get_or (fields_at d n) 0 0 ≡ type_of d n
  first = field_at 0 (omega arith) ∙ ap (λ (k : ℕ). get_or d.macroblocks k 0) here
    where
      here : n * 4 + 0 ≡ n * 4
      here = omega arith

  -- its group's number, and its address in the group
  number : ℕ
  number = n / macroblocks_across size

  address : ℕ
  address = n % macroblocks_across size + 1

  -- the tests, over the description's own places
  at : ValidParts size (is_intra_type (picture_type d)) number address (fields_at d n) (levels_at d n)
  unfolding number address
  at = valid_parts size (is_intra_type (picture_type d)) (n / macroblocks_across size) (n % macroblocks_across size + 1) (fields_at d n) (levels_at d n) (macroblock_at_lem size d t n l)

  pub type_is : T (valid_type (is_intra_type (picture_type d)) (type_of d n))
  type_is = subst (λ (k : ℕ). T (valid_type (is_intra_type (picture_type d)) k)) first at.type

  pub quant_is : T (pick (has_dquant (type_of d n)) (is_dquant (quant_of d n)) (is_zero (quant_of d n)))
  quant_is =
      subst (λ (k : ℕ). T (pick (has_dquant k) (is_dquant (quant_of d n)) (is_zero (quant_of d n)))) first
      (subst (λ (k : ℕ). T (pick (has_dquant (get_or (fields_at d n) 0 0)) (is_dquant k) (is_zero k))) (field_at 1 (omega arith)) at.quant)

  -- the bytes, the range, the picture
  whole : ℕ → ℕ → Bool
  whole h v = both (leb h 255) (leb v 255)

  ranged : ℕ → ℕ → Bool
  ranged h v = both (in_range (number_of h)) (in_range (number_of v))

  placed : ℕ → ℕ → Bool
  placed h v = in_picture size number address (byte_vector h v)

  none : ℕ → ℕ → Bool
  none h v = both (is_zero h) (is_zero v)

  vector_is : T (pick (is_inter (type_of d n)) (both (whole (horizontal_of d n) (vertical_of d n)) (both (ranged (horizontal_of d n) (vertical_of d n)) (placed (horizontal_of d n) (vertical_of d n)))) (none (horizontal_of d n) (vertical_of d n)))
  unfolding whole ranged placed none
  vector_is =
      subst (λ (k : ℕ). T (tests k (horizontal_of d n) (vertical_of d n))) first
      (subst (λ (h : ℕ). T (tests (get_or (fields_at d n) 0 0) h (vertical_of d n))) (field_at 2 (omega arith))
      (subst (λ (v : ℕ). T (tests (get_or (fields_at d n) 0 0) (get_or (fields_at d n) 2 0) v)) (field_at 3 (omega arith)) at.vector))
    where
      tests : ℕ → ℕ → ℕ → Bool
      tests k h v = pick (is_inter k) (both (whole h v) (both (ranged h v) (placed h v))) (none h v)

  moving : is_inter (type_of d n) ≡ true → T (whole (horizontal_of d n) (vertical_of d n)) × T (ranged (horizontal_of d n) (vertical_of d n)) × T (placed (horizontal_of d n) (vertical_of d n))
  moving e =
      let h = horizontal_of d n in
      let v = vertical_of d n in
      both_three (whole h v) (ranged h v) (placed h v) (pick_yes (both (whole h v) (both (ranged h v) (placed h v))) (none h v) e vector_is)

  pub fine_at : Fine size d n
  unfolding whole ranged placed none number address refresh
  fine_at =
      let h = horizontal_of d n in
      let v = vertical_of d n in
      let type = type_is in
      record {
        kind = type_most (is_intra_type (picture_type d)) (type_of d n) type;
        intra = λ e. T_true (is_intra (type_of d n)) (pick_yes (is_intra (type_of d n)) (leb (type_of d n) 4) e type);
        dquant = λ e. pick_yes (is_dquant (quant_of d n)) (is_zero (quant_of d n)) e quant_is;
        unused = λ e. eqb→eq (quant_of d n) 0 (pick_no (is_dquant (quant_of d n)) (is_zero (quant_of d n)) e quant_is);
        horizontally = λ e. both_left (in_range (number_of h)) (in_range (number_of v)) (moving e).1;
        vertically = λ e. both_right (in_range (number_of h)) (in_range (number_of v)) (moving e).1;
        inside = λ e. (moving e).2;
        bytes = λ e. (leb→le h 255 (both_left (leb h 255) (leb v 255) (moving e).0), leb→le v 255 (both_right (leb h 255) (leb v 255) (moving e).0));
        still = λ e. of_still (pick_no (both (whole h v) (both (ranged h v) (placed h v))) (none h v) e vector_is);
        blocks = subst (λ (k : ℕ). T (valid_levels k (levels_at d n))) first at.blocks;
      }
    where
      of_still : T (none (horizontal_of d n) (vertical_of d n)) → (horizontal_of d n ≡ 0) × (vertical_of d n ≡ 0)
      of_still u = (eqb→eq (horizontal_of d n) 0 (both_left (is_zero (horizontal_of d n)) (is_zero (vertical_of d n)) u), eqb→eq (vertical_of d n) 0 (both_right (is_zero (horizontal_of d n)) (is_zero (vertical_of d n)) u))

  -- the vector of a macroblock that is not INTER is zero
  pub still_vector : is_inter (type_of d n) ≡ false → vector_at d n ≡ zero_vector
  still_vector e = let s = fine_at.still e in (λ i. byte_vector (s.0 i) (s.1 i))

  -- the vector of an INTER one points into the picture, in every plane
  pub inter_aims : is_inter (type_of d n) ≡ true → (p y x : ℕ) → own p y ≡ n / macroblocks_across size → own p x ≡ n % macroblocks_across size → Aims size p y x (vector_at d n)
  inter_aims e p y x r c =
      let less : n % macroblocks_across size ≡ n % macroblocks_across size + 1 - 1 = omega arith in
      aims size (n / macroblocks_across size) (n % macroblocks_across size + 1) p y x (vector_at d n) r (c ∙ less) (fine_at.inside e)

-- ---- the law of refreshes: every macroblock of one is INTRA
pub refresh_intra : (size : Size) (d : Flat) → T (valid size d) → refresh d ≡ true → (n : ℕ) → n < macroblocks_down size * macroblocks_across size → is_intra (type_of d n) ≡ true
refresh_intra size d t e n l = (fine_at size d t n l).intra e
