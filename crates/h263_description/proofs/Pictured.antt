-- The picture of a valid description is proper. Assumes nothing.
use Prim.Native.Nat.{ℕ, zero, suc, ◌+◌, ◌*◌, ◌≤◌}
use mathlib.Core.Path.{◌≡◌, refl, ap}
use mathlib.Core.Bool.{Bool, true, false}
use mathlib.Core.List.{List, [], ◌∷◌}
use native.Mathlib.Omega.{arith}
use lib.Dec.{T, leb, eqb→eq, leb→le}
use lib.ListN.{length, get_or, take, drop, length-drop}
use Rattle.laws.specs.Choice.{pick, both}
use Rattle.laws.proofs.Choice.{both_left, both_right, both_three}
use Rattle.size.specs.declared.Size.{Size}
use Rattle.size.specs.Place.{macroblocks_across, macroblocks_down}
use Rattle.layout.specs.Value.{zero_vector, Group}
use Rattle.layout.specs.Flat.{byte_vector, gathers, macroblock_in, macroblocks_in, groups_in}
use Rattle.layout.specs.Numbers.{all, within, is_zero, is_level, codes_first}
use Rattle.layout.specs.Valid.{every_macroblock, every_group}
use Rattle.layout.specs.Proper.{If, Each, Begins, Numbered, GoodGroup}
use Rattle.layout.proofs.Blocks.{length-gathers, gathers_fit, gathers_begin}
use Rattle.layout.proofs.Pictured.{groups_good}
use Rattle.h263_words.specs.Words.{is_intra, is_inter, has_dquant, is_dquant}
use Rattle.h263_description.specs.Vector.{in_range, in_picture}
use Rattle.h263_description.specs.Value.{numbers_from, group_numbers, picture_in}
use Rattle.h263_description.specs.Fields.{picture_type, is_intra_type}
use Rattle.h263_description.specs.Valid.{valid_vector, valid_levels, valid_macroblock}
use Rattle.h263_description.specs.Proper.{ProperBlocks, ProperVector, ProperMacroblock, ProperGquant, ProperGroups}
use Rattle.h263_description.specs.Pictured.{PictureProper}
use Rattle.h263_description.proofs.Groups.{groups_listed}
use Rattle.h263_description.proofs.Levels.{all_levels}
use Rattle.h263_description.proofs.Parts.{type_sent, valid_parts, valid_lists}

-- ---- a macroblock
proper_blocks : (type : ℕ) (ls : List ℕ) → T (valid_levels type ls) → ProperBlocks type (gathers 6 ls)
proper_blocks type ls t = record {
  six = length-gathers 6 ls;
  fitting = gathers_fit 6 ls (all_levels type ls t);
  coded = coded (is_intra type) t;
}
  where
    coded : (intra : Bool) → T (pick intra (both (all is_level ls) (codes_first 6 ls)) (pick (is_inter type) (all is_level ls) (all is_zero ls))) → If intra (Each Begins (gathers 6 ls)) (Unit {0})
    coded true t = gathers_begin 6 ls (both_right (all is_level ls) (codes_first 6 ls) t)
    coded false t = tt

quantised : (has : Bool) (q : ℕ) → T (pick has (is_dquant q) (is_zero q)) → If has (T (is_dquant q)) (q ≡ 0)
quantised true q t = t
quantised false q t = eqb→eq q 0 t

pointed : (inter : Bool) (size : Size) (number address a b c d : ℕ)
    → T (pick inter (valid_vector size number address (a ∷ b ∷ c ∷ d ∷ [])) (both (is_zero c) (is_zero d)))
    → If inter (ProperVector size number address (byte_vector c d)) (byte_vector c d ≡ zero_vector)
pointed true size number address a b c d t =
    let v = byte_vector c d in
    let p = both_three (both (leb c 255) (leb d 255)) (both (in_range v.horizontal) (in_range v.vertical)) (in_picture size number address v) t in
    record {
      horizontally = both_left (in_range v.horizontal) (in_range v.vertical) p.1;
      vertically = both_right (in_range v.horizontal) (in_range v.vertical) p.1;
      inside = p.2;
    }
pointed false size number address a b c d t =
    (λ i. byte_vector (eqb→eq c 0 (both_left (is_zero c) (is_zero d) t) i) (eqb→eq d 0 (both_right (is_zero c) (is_zero d) t) i))

proper_macroblock : (size : Size) (intra : Bool) (number address t b c d : ℕ) (ls : List ℕ) → length ls ≤ 384
    → T (valid_macroblock size intra number address (suc t ∷ b ∷ c ∷ d ∷ []) ls) → ProperMacroblock size intra number (macroblock_in address (suc t ∷ b ∷ c ∷ d ∷ []) ls)
proper_macroblock size intra number address t b c d ls l valid =
    let p = valid_parts size intra number address (suc t ∷ b ∷ c ∷ d ∷ []) ls valid in
    record {
      typed = type_sent intra (suc t) (omega arith) p.type;
      quantised = quantised (has_dquant (suc t)) b p.quant;
      pointed = pointed (is_inter (suc t)) size number address (suc t) b c d p.vector;
      blocked = proper_blocks (suc t) ls p.blocks;
    }

-- ---- groups
-- in a picture of type INTRA none is unsent
macroblocks_all : (size : Size) (number k address : ℕ) (fields levels : List ℕ) → k * 4 ≤ length fields
    → T (every_macroblock (valid_macroblock size true number) k address fields levels) → length (macroblocks_in k address fields levels) ≡ k
unfolding macroblocks_in every_macroblock
macroblocks_all size number zero address fields levels n t = refl
macroblocks_all size number (suc k) address [] levels n t = absurd (omega arith)
macroblocks_all size number (suc k) address (a ∷ []) levels n t = absurd (omega arith)
macroblocks_all size number (suc k) address (a ∷ b ∷ []) levels n t = absurd (omega arith)
macroblocks_all size number (suc k) address (a ∷ b ∷ c ∷ []) levels n t = absurd (omega arith)
macroblocks_all size number (suc k) address (zero ∷ b ∷ c ∷ d ∷ fields) levels n t =
    let this = valid_macroblock size true number address (0 ∷ b ∷ c ∷ d ∷ []) (take 384 levels) in
    let rest = every_macroblock (valid_macroblock size true number) k (address + 1) fields (drop 384 levels) in
    absurd (valid_parts size true number address (0 ∷ b ∷ c ∷ d ∷ []) (take 384 levels) (both_left this rest t)).type
macroblocks_all size number (suc k) address (suc a ∷ b ∷ c ∷ d ∷ fields) levels n t =
    let this = valid_macroblock size true number address (suc a ∷ b ∷ c ∷ d ∷ []) (take 384 levels) in
    let rest = every_macroblock (valid_macroblock size true number) k (address + 1) fields (drop 384 levels) in
    ap suc (macroblocks_all size number k (address + 1) fields (drop 384 levels) (omega arith) (both_right this rest t))

-- a group's fields, and those of the others
first_group : (n size k : ℕ) → suc n * size ≤ k → size + n * size ≤ k
first_group n size k h = omega arith

abbrev Complete : Size → Bool → ℕ → Group → Type 0
Complete size intra number x = If intra (length x.macroblocks ≡ macroblocks_across size) (Unit {0})

group_complete : (size : Size) (intra : Bool) (number : ℕ) (q : ℕ) (fields levels : List ℕ) → macroblocks_across size * 4 ≤ length fields
    → T (every_macroblock (valid_macroblock size intra number) (macroblocks_across size) 1 fields levels)
    → Complete size intra number (record { gquant = q; macroblocks = macroblocks_in (macroblocks_across size) 1 fields levels })
group_complete size true number q fields levels l t = macroblocks_all size number (macroblocks_across size) 1 fields levels l t
group_complete size false number q fields levels l t = tt

groups_complete : (size : Size) (intra : Bool) (numbers qs fields levels : List ℕ) → length qs ≡ length numbers → length numbers * (macroblocks_across size * 4) ≤ length fields
    → T (every_group (macroblocks_across size) (valid_macroblock size intra) numbers fields levels)
    → Numbered (Complete size intra) numbers (groups_in (macroblocks_across size) qs fields levels)
unfolding groups_in every_group
groups_complete size intra [] [] fields levels e l t = tt
groups_complete size intra [] (q ∷ qs) fields levels e l t = absurd (omega arith)
groups_complete size intra (number ∷ numbers) [] fields levels e l t = absurd (omega arith)
groups_complete size intra (number ∷ numbers) (q ∷ qs) fields levels e l t =
    let each : ℕ = macroblocks_across size in
    let this = every_macroblock (valid_macroblock size intra number) each 1 fields levels in
    let rest = every_group each (valid_macroblock size intra) numbers (drop (each * 4) fields) (drop (each * 384) levels) in
    let more : each * 4 + length numbers * (each * 4) ≤ length fields = first_group (length numbers) (each * 4) (length fields) l in (
      group_complete size intra number q fields levels (omega arith) (both_left this rest t),
      groups_complete size intra numbers qs (drop (each * 4) fields) (drop (each * 384) levels) (omega arith) (omega (arith, length-drop (each * 4) fields)) (both_right this rest t),
    )

groups_proper : (size : Size) (intra : Bool) (numbers : List ℕ) (xs : List Group)
    → Numbered (GoodGroup (macroblocks_across size) ProperGquant (ProperMacroblock size intra)) numbers xs → Numbered (Complete size intra) numbers xs → ProperGroups size intra numbers xs
groups_proper size intra [] [] g h = tt
groups_proper size intra [] (x ∷ xs) g h = absurd g
groups_proper size intra (number ∷ numbers) [] g h = absurd g
groups_proper size intra (number ∷ numbers) (x ∷ xs) g h = (record { good = g.0; complete = h.0 }, groups_proper size intra numbers xs g.1 h.1)

-- ---- GQUANTs: past the first, any up to 31
later_gquants : (number k : ℕ) (qs : List ℕ) → length qs ≡ k → T (all (within 0 31) qs) → Numbered ProperGquant (numbers_from (suc number) k) qs
later_gquants number zero [] e t = tt
later_gquants number zero (q ∷ qs) e t = absurd (omega arith)
later_gquants number (suc k) [] e t = absurd (omega arith)
later_gquants number (suc k) (q ∷ qs) e t =
    let low = both_left (within 0 31 q) (all (within 0 31) qs) t in
    (leb→le q 31 (both_right (leb 0 q) (leb q 31) low), later_gquants (suc number) k qs (omega arith) (both_right (within 0 31 q) (all (within 0 31) qs) t))

proper_gquants : (k : ℕ) (qs : List ℕ) → length qs ≡ k → T (all (within 0 31) qs) → get_or qs 0 0 ≡ 0 → Numbered ProperGquant (numbers_from 0 k) qs
proper_gquants zero [] e t z = tt
proper_gquants zero (q ∷ qs) e t z = absurd (omega arith)
proper_gquants (suc k) [] e t z = absurd (omega arith)
proper_gquants (suc k) (q ∷ qs) e t z = (z, later_gquants 0 k qs (omega arith) (both_right (within 0 31 q) (all (within 0 31) qs) t))

-- ---- the picture
pub picture_proper : PictureProper
unfolding picture_in
picture_proper size d t =
    let v = valid_lists size d t in
    let intra = is_intra_type (picture_type d) in
    let each : ℕ = macroblocks_across size in
    let down : ℕ = macroblocks_down size in
    let n : length (group_numbers size) ≡ down = groups_listed size in
    let qs : List ℕ = drop 5 d.head in
    let counted : length qs ≡ down = omega (arith, length-drop 5 d.head, v.head_length) in
    let room : length (group_numbers size) * (each * 4) ≤ length d.macroblocks = rw (n, v.macroblocks_length) (omega arith) in
    record {
      reference = v.tr;
      flagged = v.ptype;
      typed = v.type;
      quantised = v.pquant;
      grouped =
          groups_proper size intra (group_numbers size) (groups_in each qs d.macroblocks d.levels)
          (groups_good each (valid_macroblock size intra) ProperGquant (ProperMacroblock size intra) (proper_macroblock size intra) (group_numbers size) qs d.macroblocks d.levels room
          (proper_gquants down qs counted v.gquants v.first) v.groups)
          (groups_complete size intra (group_numbers size) qs d.macroblocks d.levels (omega arith) room v.groups);
    }
