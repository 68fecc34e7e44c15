-- The picture of a valid description is proper. Assumes nothing.
use Prim.Native.Nat.{ℕ, suc, ◌+◌, ◌*◌, ◌≤◌}
use mathlib.Core.Path.{◌≡◌}
use mathlib.Core.Bool.{Bool, true, false}
use mathlib.Core.List.{List, [], ◌∷◌}
use native.Mathlib.Omega.{arith}
use lib.Dec.{T, eqb, leb, eqb→eq, leb→le, le→leb}
use lib.ListN.{length, get_or, drop, length-drop}
use Rattle.laws.specs.Choice.{pick, both, opposite}
use Rattle.laws.proofs.Choice.{both_left, both_right, both_make, both_three}
use Rattle.layout.specs.Value.{zero_vector}
use Rattle.layout.specs.Flat.{Flat, byte_vector, gathers, macroblock_in}
use Rattle.layout.specs.Numbers.{all, is_zero, is_quantiser, is_level, codes_first}
use Rattle.layout.specs.Proper.{If, Each, Begins, all_empty}
use Rattle.layout.proofs.Blocks.{length-gathers, gathers_fit, gathers_begin, gathers-none, gathers-some}
use Rattle.layout.proofs.Pictured.{numbered_all, groups_good}
use Rattle.layout.proofs.LaidOut.{has_lengths_lem}
use Rattle.h261_words.specs.Words.{is_intra, is_mc, has_mquant, has_cbp}
use Rattle.h261_groups.specs.Format.{format_bit, group_count, group_numbers}
use Rattle.h261_groups.specs.declared.Format.{Format}
use Rattle.h261_groups.proofs.Room.{groups_listed}
use Rattle.h261_description.specs.Vector.{in_range, in_picture}
use Rattle.h261_description.specs.Value.{shape, picture_in}
use Rattle.h261_description.specs.Valid.{valid_vector, valid_levels, valid_macroblock, valid_groups, lengths_of, valid_head, valid}
use Rattle.h261_description.specs.Proper.{ProperBlocks, ProperVector, ProperMacroblock, ProperGquant}
use Rattle.h261_description.specs.Pictured.{PictureProper}
use Rattle.h261_description.proofs.Levels.{all_levels}

-- ---- a macroblock
proper_blocks : (type : ℕ) (ls : List ℕ) → length ls ≤ 384 → T (valid_levels type ls) → ProperBlocks type (gathers 6 ls)
proper_blocks type ls l t = record {
  six = length-gathers 6 ls;
  fitting = gathers_fit 6 ls (all_levels type ls t);
  coded = coded (is_intra type) (has_cbp type) t;
}
  where
    Levels : Bool → Bool → Type 0
    Levels intra cbp = T (pick intra (both (all is_level ls) (codes_first 6 ls)) (pick cbp (both (all is_level ls) (opposite (all is_zero ls))) (all is_zero ls)))

    coded : (intra cbp : Bool) → Levels intra cbp
        → If intra (Each Begins (gathers 6 ls)) (If cbp (T (opposite (all_empty (gathers 6 ls)))) (T (all_empty (gathers 6 ls))))
    coded true cbp t = gathers_begin 6 ls (both_right (all is_level ls) (codes_first 6 ls) t)
    coded false true t = gathers-some 6 ls l (both_right (all is_level ls) (opposite (all is_zero ls)) t)
    coded false false t = gathers-none 6 ls t

quantised : (has : Bool) (q : ℕ) → T (pick has (is_quantiser q) (is_zero q)) → If has (T (is_quantiser q)) (q ≡ 0)
quantised true q t = t
quantised false q t = eqb→eq q 0 t

pointed : (mc : Bool) (f : Format) (number address a b c d : ℕ)
    → T (pick mc (valid_vector f number address (a ∷ b ∷ c ∷ d ∷ [])) (both (is_zero c) (is_zero d)))
    → If mc (ProperVector f number address (byte_vector c d)) (byte_vector c d ≡ zero_vector)
pointed true f number address a b c d t =
    let v = byte_vector c d in
    let p = both_three (both (leb c 255) (leb d 255)) (both (in_range v.horizontal) (in_range v.vertical)) (in_picture f number address v) t in
    record {
      horizontally = both_left (in_range v.horizontal) (in_range v.vertical) p.1;
      vertically = both_right (in_range v.horizontal) (in_range v.vertical) p.1;
      inside = p.2;
    }
pointed false f number address a b c d t =
    (λ i. byte_vector (eqb→eq c 0 (both_left (is_zero c) (is_zero d) t) i) (eqb→eq d 0 (both_right (is_zero c) (is_zero d) t) i))

-- the tests of a macroblock, one by one, over its four bytes and 384 levels
pub record ValidParts (f : Format) (number address : ℕ) (fields levels : List ℕ) : Type 0 where
  pub type : T (leb (get_or fields 0 0) 10)
  pub quant : T (pick (has_mquant (get_or fields 0 0)) (is_quantiser (get_or fields 1 0)) (is_zero (get_or fields 1 0)))
  pub vector : T (pick (is_mc (get_or fields 0 0)) (valid_vector f number address fields) (both (is_zero (get_or fields 2 0)) (is_zero (get_or fields 3 0))))
  pub blocks : T (valid_levels (get_or fields 0 0) levels)

pub valid_parts : (f : Format) (number address : ℕ) (fields levels : List ℕ) → T (valid_macroblock f number address fields levels) → ValidParts f number address fields levels
unfolding valid_macroblock
valid_parts f number address fields levels t =
    let type = get_or fields 0 0 in
    let mq = pick (has_mquant type) (is_quantiser (get_or fields 1 0)) (is_zero (get_or fields 1 0)) in
    let mv = pick (is_mc type) (valid_vector f number address fields) (both (is_zero (get_or fields 2 0)) (is_zero (get_or fields 3 0))) in
    let p = both_three (leb type 10) mq (both mv (valid_levels type levels)) t in
    record { type = p.0; quant = p.1; vector = both_left mv (valid_levels type levels) p.2; blocks = both_right mv (valid_levels type levels) p.2 }

proper_macroblock : (f : Format) (number address t b c d : ℕ) (ls : List ℕ) → length ls ≤ 384
    → T (valid_macroblock f number address (suc t ∷ b ∷ c ∷ d ∷ []) ls) → ProperMacroblock f number (macroblock_in address (suc t ∷ b ∷ c ∷ d ∷ []) ls)
proper_macroblock f number address t b c d ls l valid =
    let p = valid_parts f number address (suc t ∷ b ∷ c ∷ d ∷ []) ls valid in
    record {
      typed = both_make (leb 1 (suc t)) (leb (suc t) 10) (le→leb 1 (suc t) (omega arith)) p.type;
      quantised = quantised (has_mquant (suc t)) b p.quant;
      pointed = pointed (is_mc (suc t)) f number address (suc t) b c d p.vector;
      blocked = proper_blocks (suc t) ls l p.blocks;
    }

-- ---- the picture
-- what validity says of the three lists
pub record ValidLists (f : Format) (d : Flat) : Type 0 where
  pub lengths : T (lengths_of f d)
  pub head_length : length d.head ≡ 3 + group_count f
  pub macroblocks_length : length d.macroblocks ≡ group_count f * 132
  pub levels_length : length d.levels ≡ group_count f * 12672
  pub tr : get_or d.head 0 0 ≤ 31
  pub ptype : get_or d.head 1 0 ≤ 7
  pub format : get_or d.head 2 0 ≡ format_bit f
  pub gquants : T (all is_quantiser (drop 3 d.head))
  pub groups : T (valid_groups f (group_numbers f) d.macroblocks d.levels)

pub valid_lists : (f : Format) (d : Flat) → T (valid f d) → ValidLists f d
unfolding valid
valid_lists f d t =
    let groups = valid_groups f (group_numbers f) d.macroblocks d.levels in
    let p = leb (get_or d.head 0 0) 31 in
    let q = leb (get_or d.head 1 0) 7 in
    let r = eqb (get_or d.head 2 0) (format_bit f) in
    let s = all is_quantiser (drop 3 d.head) in
    let parts = both_three (lengths_of f d) (valid_head f d.head) groups t in
    let lengths = has_lengths_lem (shape f) d parts.0 in
    let heads = both_three p q (both r s) parts.1 in
    record {
      lengths = parts.0;
      head_length = lengths.head_length;
      macroblocks_length = lengths.macroblocks_length;
      levels_length = lengths.levels_length;
      tr = leb→le _ _ heads.0;
      ptype = leb→le _ _ heads.1;
      format = eqb→eq _ _ (both_left r s heads.2);
      gquants = both_right r s heads.2;
      groups = parts.2;
    }

pub picture_proper : PictureProper
unfolding picture_in
picture_proper f d t =
    let v = valid_lists f d t in
    let n = groups_listed f in
    let l = length-drop 3 d.head in
    let qs = drop 3 d.head in
    let quantised = numbered_all is_quantiser (group_numbers f) qs (omega (arith, v.head_length)) v.gquants in
    record {
      reference = v.tr;
      typed = v.ptype;
      grouped = groups_good 33 (valid_macroblock f) ProperGquant (ProperMacroblock f) (proper_macroblock f) (group_numbers f) qs d.macroblocks d.levels (omega (arith, v.macroblocks_length)) quantised v.groups;
    }
