-- What validity says of each group and of each macroblock, by its number in sending order. Assumes nothing.
use mathlib.Core.Path.{◌≡◌, refl, sym, ap, subst, ◌∙◌}
use mathlib.Core.Bool.{Bool, true, false}
use Prim.Native.Nat.{ℕ, zero, suc, ◌+◌, ◌*◌, ◌/◌, ◌%◌, ◌≤◌, ◌<◌}
use native.Mathlib.Omega.{arith}
use lib.Dec.{T, leb, leb→le, eqb→eq}
use lib.ListN.{get_or, length, drop, length-drop}
use lib.Seq.{get_or-take, get_or-drop}
use Rattle.laws.specs.Choice.{pick, both}
use Rattle.laws.proofs.Choice.{both_left, both_right, pick_yes, pick_no}
use Rattle.layout.proofs.EveryAt.{fields_at, levels_at, every_at}
use Rattle.h261_words.specs.Words.{is_mc, has_mquant}
use Rattle.h261_groups.specs.declared.Format.{Format}
use Rattle.h261_groups.specs.Format.{group_numbers, group_count, head_length, macroblocks_length, levels_length}
use Rattle.h261_groups.proofs.Room.{groups_listed}
use Rattle.h261_groups.specs.Order.{macroblock_count}
use Rattle.h261_groups.proofs.Blocks.{group_of, address_of}
use Rattle.layout.specs.Value.{zero_vector}
use Rattle.h261_description.specs.Vector.{in_range, in_picture}
use Rattle.layout.specs.Flat.{Flat, number_of}
use Rattle.layout.specs.Numbers.{is_zero, is_quantiser}
use Rattle.h261_description.specs.Valid.{valid_levels, valid_macroblock, valid}
use Rattle.layout.proofs.Levels.{all_index}
use Rattle.h261_description.proofs.Pictured.{ValidParts, valid_parts, ValidLists, valid_lists}
use Rattle.layout.specs.Fields.{type_of, quant_of, horizontal_of, vertical_of, vector_at}
use Rattle.h261_description.specs.Fields.{gquant_of, vector_sent, quantiser_next, quantiser_before, quantiser_of}

-- ---- of a valid description
module _ (f : Format) (d : Flat) (t : T (valid f d)) where
  lists : ValidLists f d
  lists = valid_lists f d t

  pub head_length_lem : length d.head ≡ head_length f
  head_length_lem = lists.head_length

  pub macroblocks_length_lem : length d.macroblocks ≡ macroblocks_length f
  macroblocks_length_lem = lists.macroblocks_length

  pub levels_length_lem : length d.levels ≡ levels_length f
  levels_length_lem = lists.levels_length

  pub gquant_at : (g : ℕ) → g < group_count f → T (is_quantiser (gquant_of d g))
  gquant_at g l =
      subst (λ (q : ℕ). T (is_quantiser q)) (get_or-drop 3 d.head g 0)
      (all_index is_quantiser (drop 3 d.head) lists.gquants g (omega (arith, length-drop 3 d.head, head_length_lem)))

  pub macroblock_at_lem : (n : ℕ) → n < macroblock_count f → T (valid_macroblock f (group_of f n) (address_of n) (fields_at d n) (levels_at d n))
  macroblock_at_lem n l =
      subst (λ (k : ℕ). T (valid_macroblock f (group_of f n) (address_of n) (fields_at d k) (levels_at d k))) number
      (every_at 33 (valid_macroblock f) (group_numbers f) d lists.groups (n / 33) (n % 33) (omega (arith, groups_listed f)) (omega arith))
    where
      number : n / 33 * 33 + n % 33 ≡ n
      number = omega arith

-- ---- of a macroblock
-- what validity says of macroblock n
pub record Fine (f : Format) (d : Flat) (n : ℕ) : Type 0 where
  pub kind : type_of d n ≤ 10
  pub mquant : has_mquant (type_of d n) ≡ true → T (is_quantiser (quant_of d n))
  pub unused : has_mquant (type_of d n) ≡ false → quant_of d n ≡ 0
  pub moving : is_mc (type_of d n) ≡ true → T (both (both (in_range (number_of (horizontal_of d n))) (in_range (number_of (vertical_of d n)))) (in_picture f (group_of f n) (address_of n) (vector_at d n)))
  pub bytes : is_mc (type_of d n) ≡ true → (horizontal_of d n ≤ 255) × (vertical_of d n ≤ 255)
  pub still : is_mc (type_of d n) ≡ false → (horizontal_of d n ≡ 0) × (vertical_of d n ≡ 0)
  pub blocks : T (valid_levels (type_of d n) (levels_at d n))

module _ (f : Format) (d : Flat) (t : T (valid f d)) (n : ℕ) (l : n < macroblock_count f) where
  field_at : (k : ℕ) → k < 4 → get_or (fields_at d n) k 0 ≡ get_or d.macroblocks (n * 4 + k) 0
  field_at k m = get_or-take 4 (drop (n * 4) d.macroblocks) k 0 m ∙ get_or-drop (n * 4) d.macroblocks k 0

  first : get_or (fields_at d n) 0 0 ≡ type_of d n
  first = field_at 0 (omega arith) ∙ ap (λ (k : ℕ). get_or d.macroblocks k 0) here
    where
      here : n * 4 + 0 ≡ n * 4
      here = omega arith

  -- the tests, over the description's own places
  at : ValidParts f (group_of f n) (address_of n) (fields_at d n) (levels_at d n)
  at = valid_parts f (group_of f n) (address_of n) (fields_at d n) (levels_at d n) (macroblock_at_lem f d t n l)

  mquant_is : T (pick (has_mquant (type_of d n)) (is_quantiser (quant_of d n)) (is_zero (quant_of d n)))
  mquant_is =
      subst (λ (k : ℕ). T (pick (has_mquant k) (is_quantiser (quant_of d n)) (is_zero (quant_of d n)))) first
      (subst (λ (k : ℕ). T (pick (has_mquant (get_or (fields_at d n) 0 0)) (is_quantiser k) (is_zero k))) (field_at 1 (omega arith)) at.quant)

  vector_is : T (pick (is_mc (type_of d n))
      (both (both (leb (horizontal_of d n) 255) (leb (vertical_of d n) 255)) (both (both (in_range (number_of (horizontal_of d n))) (in_range (number_of (vertical_of d n)))) (in_picture f (group_of f n) (address_of n) (vector_at d n))))
      (both (is_zero (horizontal_of d n)) (is_zero (vertical_of d n))))
  vector_is =
      subst (λ (k : ℕ). T (tests k (horizontal_of d n) (vertical_of d n))) first
      (subst (λ (h : ℕ). T (tests (get_or (fields_at d n) 0 0) h (vertical_of d n))) (field_at 2 (omega arith))
      (subst (λ (v : ℕ). T (tests (get_or (fields_at d n) 0 0) (get_or (fields_at d n) 2 0) v)) (field_at 3 (omega arith)) at.vector))
    where
      tests : ℕ → ℕ → ℕ → Bool
      tests k h v =
          pick (is_mc k)
          (both (both (leb h 255) (leb v 255)) (both (both (in_range (number_of h)) (in_range (number_of v))) (in_picture f (group_of f n) (address_of n) (record { horizontal = number_of h; vertical = number_of v }))))
          (both (is_zero h) (is_zero v))

  pub fine_at : Fine f d n
  fine_at = record {
    kind = leb→le (type_of d n) 10 (subst (λ (k : ℕ). T (leb k 10)) first at.type);
    mquant = λ e. pick_yes (is_quantiser (quant_of d n)) (is_zero (quant_of d n)) e mquant_is;
    unused = λ e. eqb→eq (quant_of d n) 0 (pick_no (is_quantiser (quant_of d n)) (is_zero (quant_of d n)) e mquant_is);
    moving = λ e. both_right whole ranged (pick_yes (both whole ranged) none e vector_is);
    bytes = λ e. of_bytes (both_left whole ranged (pick_yes (both whole ranged) none e vector_is));
    still = λ e. of_still (pick_no (both whole ranged) none e vector_is);
    blocks = subst (λ (k : ℕ). T (valid_levels k (levels_at d n))) first at.blocks;
  }
    where
      whole : Bool
      whole = both (leb (horizontal_of d n) 255) (leb (vertical_of d n) 255)

      ranged : Bool
      ranged = both (both (in_range (number_of (horizontal_of d n))) (in_range (number_of (vertical_of d n)))) (in_picture f (group_of f n) (address_of n) (vector_at d n))

      none : Bool
      none = both (is_zero (horizontal_of d n)) (is_zero (vertical_of d n))

      of_bytes : T whole → (horizontal_of d n ≤ 255) × (vertical_of d n ≤ 255)
      of_bytes u = (leb→le (horizontal_of d n) 255 (both_left (leb (horizontal_of d n) 255) (leb (vertical_of d n) 255) u), leb→le (vertical_of d n) 255 (both_right (leb (horizontal_of d n) 255) (leb (vertical_of d n) 255) u))

      of_still : T none → (horizontal_of d n ≡ 0) × (vertical_of d n ≡ 0)
      of_still u = (eqb→eq (horizontal_of d n) 0 (both_left (is_zero (horizontal_of d n)) (is_zero (vertical_of d n)) u), eqb→eq (vertical_of d n) 0 (both_right (is_zero (horizontal_of d n)) (is_zero (vertical_of d n)) u))

  -- the bytes say the vector, zero where the type is not MC
  pub vector_at_lem : vector_sent d n ≡ vector_at d n
  vector_at_lem = go (is_mc (type_of d n)) refl
    where
      go : (b : Bool) → is_mc (type_of d n) ≡ b → pick b (vector_at d n) zero_vector ≡ vector_at d n
      go true e = refl
      go false e = λ i. record { horizontal = number_of (sym (fine_at.still e).0 i); vertical = number_of (sym (fine_at.still e).1 i) }

-- ---- the quantiser that stands
pub quantiser_next_lem : (d : Flat) (n q : ℕ) → (has_mquant (type_of d n) ≡ true → T (is_quantiser (quant_of d n))) → T (is_quantiser q) → T (is_quantiser (quantiser_next d n q))
quantiser_next_lem d n q h t = go (has_mquant (type_of d n)) refl
  where
    go : (b : Bool) → has_mquant (type_of d n) ≡ b → T (is_quantiser (pick b (quant_of d n) q))
    go true e = h e
    go false e = t

module _ (f : Format) (d : Flat) (t : T (valid f d)) where
  pub quantiser_before_lem : (g k : ℕ) → g < group_count f → k < 33 → T (is_quantiser (quantiser_before d g k))
  unfolding quantiser_before
  quantiser_before_lem g zero l m = gquant_at f d t g l
  quantiser_before_lem g (suc k) l m =
      quantiser_next_lem d (g * 33 + k) (quantiser_before d g k) (λ e. (fine_at f d t (g * 33 + k) (omega arith)).mquant e) (quantiser_before_lem g k l (omega arith))

  pub quantiser_at : (n : ℕ) → n < macroblock_count f → T (is_quantiser (quantiser_of d n))
  unfolding quantiser_of
  quantiser_at n l = quantiser_next_lem d n (quantiser_before d (n / 33) (n % 33)) (λ e. (fine_at f d t n l).mquant e) (quantiser_before_lem (n / 33) (n % 33) (omega arith) (omega arith))

quantiser_step : (d : Flat) (g k : ℕ) → quantiser_before d g (suc k) ≡ quantiser_next d (g * 33 + k) (quantiser_before d g k)
unfolding quantiser_before
quantiser_step d g k = refl

-- what stands at a macroblock stands before the next of its group
pub quantiser_kept : (d : Flat) (n : ℕ) → n % 33 < 32 → quantiser_before d ((n + 1) / 33) ((n + 1) % 33) ≡ quantiser_of d n
unfolding quantiser_of
quantiser_kept d n l =
    (λ i. quantiser_before d (group i) (address i)) ∙ quantiser_step d (n / 33) (n % 33) ∙ ap (λ (k : ℕ). quantiser_next d k (quantiser_before d (n / 33) (n % 33))) number
  where
    group : (n + 1) / 33 ≡ n / 33
    group = omega arith

    address : (n + 1) % 33 ≡ suc (n % 33)
    address = omega arith

    number : n / 33 * 33 + n % 33 ≡ n
    number = omega arith
