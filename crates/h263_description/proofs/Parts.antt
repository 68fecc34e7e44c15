-- What validity says, test by test: of a macroblock's bytes, and of a description's three lists. Assumes nothing.
use Prim.Native.Nat.{ℕ, ◌+◌, ◌*◌, ◌≤◌}
use mathlib.Core.Path.{◌≡◌}
use mathlib.Core.Bool.{Bool, true, false}
use native.Mathlib.Omega.{arith}
use mathlib.Core.List.{List}
use lib.Dec.{T, eqb, leb, eqb→eq, leb→le, le→leb}
use lib.ListN.{length, get_or, drop}
use Rattle.laws.specs.Choice.{pick, both, either}
use Rattle.laws.proofs.Choice.{both_left, both_right, both_make, both_three}
use Rattle.size.specs.declared.Size.{Size}
use Rattle.size.specs.Place.{macroblocks_across, macroblocks_down}
use Rattle.layout.specs.Flat.{Flat}
use Rattle.layout.specs.Numbers.{all, within, is_zero, is_quantiser}
use Rattle.layout.proofs.LaidOut.{has_lengths_lem}
use Rattle.h263_words.specs.Words.{is_intra, is_inter, has_dquant, is_dquant}
use Rattle.h263_description.specs.Value.{format_number, group_numbers, shape}
use Rattle.h263_description.specs.Fields.{pquant_of, picture_type, is_intra_type}
use Rattle.h263_description.specs.Valid.{valid_vector, valid_levels, valid_type, valid_macroblock, valid_groups, lengths_of, valid_head, valid}

-- ---- types
pub intra_type : (type : ℕ) → T (is_intra type) → (1 ≤ type) × (type ≤ 2)
intra_type type t = go (eqb type 1) (eqb type 2) (eqb→eq type 1) (eqb→eq type 2) t
  where
    go : (a b : Bool) → (T a → type ≡ 1) → (T b → type ≡ 2) → T (either a (either b false)) → (1 ≤ type) × (type ≤ 2)
    go true b f g t = let e = f tt in (omega arith, omega arith)
    go false true f g t = let e = g tt in (omega arith, omega arith)
    go false false f g t = absurd t

pub type_most : (intra : Bool) (type : ℕ) → T (valid_type intra type) → type ≤ 4
type_most true type t = let l = (intra_type type t).1 in omega arith
type_most false type t = leb→le type 4 t

-- one that is sent
pub type_some : (intra : Bool) (type : ℕ) → T (pick intra (is_intra type) (within 1 4 type)) → 1 ≤ type
type_some true type t = (intra_type type t).0
type_some false type t = leb→le 1 type (both_left (leb 1 type) (leb type 4) t)

pub type_sent : (intra : Bool) (type : ℕ) → 1 ≤ type → T (valid_type intra type) → T (pick intra (is_intra type) (within 1 4 type))
type_sent true type l t = t
type_sent false type l t = both_make (leb 1 type) (leb type 4) (le→leb 1 type l) t

pub type_valid : (intra : Bool) (type : ℕ) → T (pick intra (is_intra type) (within 1 4 type)) → T (valid_type intra type)
type_valid true type t = t
type_valid false type t = both_right (leb 1 type) (leb type 4) t

-- ---- the tests of a macroblock, over its four bytes and 384 levels
pub record ValidParts (size : Size) (intra : Bool) (number address : ℕ) (fields levels : List ℕ) : Type 0 where
  pub type : T (valid_type intra (get_or fields 0 0))
  pub quant : T (pick (has_dquant (get_or fields 0 0)) (is_dquant (get_or fields 1 0)) (is_zero (get_or fields 1 0)))
  pub vector : T (pick (is_inter (get_or fields 0 0)) (valid_vector size number address fields) (both (is_zero (get_or fields 2 0)) (is_zero (get_or fields 3 0))))
  pub blocks : T (valid_levels (get_or fields 0 0) levels)

pub valid_parts : (size : Size) (intra : Bool) (number address : ℕ) (fields levels : List ℕ) → T (valid_macroblock size intra number address fields levels) → ValidParts size intra number address fields levels
unfolding valid_macroblock
valid_parts size intra number address fields levels t =
    let type = get_or fields 0 0 in
    let quant = pick (has_dquant type) (is_dquant (get_or fields 1 0)) (is_zero (get_or fields 1 0)) in
    let vector = pick (is_inter type) (valid_vector size number address fields) (both (is_zero (get_or fields 2 0)) (is_zero (get_or fields 3 0))) in
    let p = both_three (valid_type intra type) quant (both vector (valid_levels type levels)) t in
    record { type = p.0; quant = p.1; vector = both_left vector (valid_levels type levels) p.2; blocks = both_right vector (valid_levels type levels) p.2 }

-- ---- of the three lists
pub record ValidLists (size : Size) (d : Flat) : Type 0 where
  pub lengths : T (lengths_of size d)
  pub head_length : length d.head ≡ 5 + macroblocks_down size
  pub macroblocks_length : length d.macroblocks ≡ macroblocks_down size * (macroblocks_across size * 4)
  pub levels_length : length d.levels ≡ macroblocks_down size * (macroblocks_across size * 384)
  pub tr : get_or d.head 0 0 ≤ 255
  pub ptype : get_or d.head 1 0 ≤ 7
  pub format : get_or d.head 2 0 ≡ format_number size
  pub type : picture_type d ≤ 1
  pub pquant : T (is_quantiser (pquant_of d))
  pub first : get_or (drop 5 d.head) 0 0 ≡ 0
  pub gquants : T (all (within 0 31) (drop 5 d.head))
  pub groups : T (valid_groups size (is_intra_type (picture_type d)) (group_numbers size) d.macroblocks d.levels)

pub valid_lists : (size : Size) (d : Flat) → T (valid size d) → ValidLists size d
unfolding valid
valid_lists size d t =
    let groups = valid_groups size (is_intra_type (picture_type d)) (group_numbers size) d.macroblocks d.levels in
    let p = leb (get_or d.head 0 0) 255 in
    let q = leb (get_or d.head 1 0) 7 in
    let r = eqb (get_or d.head 2 0) (format_number size) in
    let s = leb (picture_type d) 1 in
    let u = is_quantiser (pquant_of d) in
    let none = is_zero (get_or (drop 5 d.head) 0 0) in
    let low = all (within 0 31) (drop 5 d.head) in
    let parts = both_three (lengths_of size d) (valid_head size d.head) groups t in
    let lengths = has_lengths_lem (shape size) d parts.0 in
    let head = both_three p q (both r (both s (both u (both none low)))) parts.1 in
    let rest = both_three r s (both u (both none low)) head.2 in
    let last = both_three u none low rest.2 in
    record {
      lengths = parts.0;
      head_length = lengths.head_length;
      macroblocks_length = lengths.macroblocks_length;
      levels_length = lengths.levels_length;
      tr = leb→le _ _ head.0;
      ptype = leb→le _ _ head.1;
      format = eqb→eq _ _ rest.0;
      type = leb→le _ _ rest.1;
      pquant = last.0;
      first = eqb→eq _ _ last.1;
      gquants = last.2;
      groups = parts.2;
    }
