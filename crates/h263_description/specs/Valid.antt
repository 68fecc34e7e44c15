-- When a description is valid. Document 01: "It is valid when fields are in range (levels -127..127, the DC of INTRA an allowed code), vectors obey the rules,
-- every unused MQUANT, vector component and level is 0"; document 02: "GQUANT is 0 where none does", "A valid description of type INTRA has every macroblock
-- sent as INTRA; an INTER macroblock may be without a nonzero level." Assumes nothing.
use Rattle.std.specs.Prelude.{ℕ, Bool, List, leb, eqb, get_or, drop}
use Rattle.laws.specs.Choice.{pick, both, either}
use Rattle.size.specs.Place.{macroblocks_across}
use Rattle.size.specs.declared.Size.{Size}
use Rattle.size.specs.declared.Size.TheVariants.{SubQcif, Qcif, Cif}
use Rattle.h263_words.specs.Words.{is_intra, is_inter, has_dquant, is_dquant}
use Rattle.layout.specs.Flat.{Flat, vector_in}
use Rattle.layout.specs.Numbers.{all, within, is_zero, is_quantiser, is_level, codes_first}
use Rattle.layout.specs.Valid.{every_macroblock, every_group, has_lengths}
use Rattle.h263_description.specs.Vector.{in_range, in_picture}
use Rattle.h263_description.specs.Value.{format_number, group_numbers, shape}
use Rattle.h263_description.specs.Fields.{picture_type, is_intra_type}

-- ---- macroblocks
-- the vector rules. What predicts it doesn't matter: every such vector can be sent
abbrev pub valid_vector : Size → ℕ → ℕ → List ℕ → Bool
valid_vector size number address fields =
    both (both (leb (get_or fields 2 0) 255) (leb (get_or fields 3 0) 255))
    (both (both (in_range (vector_in fields).horizontal) (in_range (vector_in fields).vertical)) (in_picture size number address (vector_in fields)))

abbrev pub valid_levels : ℕ → List ℕ → Bool
valid_levels type levels =
    pick (is_intra type) (both (all is_level levels) (codes_first 6 levels)) (pick (is_inter type) (all is_level levels) (all is_zero levels))

-- "Type INTRA: every macroblock is 1 or 2."
abbrev pub valid_type : Bool → ℕ → Bool
valid_type intra type = pick intra (is_intra type) (leb type 4)

-- the fields and levels of the macroblock at an address of a group, in a picture of this type
unfoldable pub valid_macroblock : Size → Bool → ℕ → ℕ → List ℕ → List ℕ → Bool
valid_macroblock size intra number address fields levels =
    let type = get_or fields 0 0 in
    both (valid_type intra type)
    (both (pick (has_dquant type) (is_dquant (get_or fields 1 0)) (is_zero (get_or fields 1 0)))
    (both (pick (is_inter type) (valid_vector size number address fields) (both (is_zero (get_or fields 2 0)) (is_zero (get_or fields 3 0))))
    (valid_levels type levels)))

-- k macroblocks of a group, from an address on
abbrev pub valid_macroblocks : ℕ → Size → Bool → ℕ → ℕ → List ℕ → List ℕ → Bool
valid_macroblocks k size intra number = every_macroblock (valid_macroblock size intra number) k

abbrev pub valid_groups : Size → Bool → List ℕ → List ℕ → List ℕ → Bool
valid_groups size intra = every_group (macroblocks_across size) (valid_macroblock size intra)

-- ---- the picture
-- the lengths of a size's description
abbrev pub lengths_of : Size → Flat → Bool
lengths_of size = has_lengths (shape size)

-- those of one of the three sizes
abbrev pub one_size : Flat → Bool
one_size d = either (lengths_of SubQcif d) (either (lengths_of Qcif d) (lengths_of Cif d))

-- "GQUANT, 1..31 where a header stands and 0 where none does. The first group's is always 0."
abbrev pub valid_gquants : List ℕ → Bool
valid_gquants gquants = both (is_zero (get_or gquants 0 0)) (all (within 0 31) gquants)

abbrev pub valid_head : Size → List ℕ → Bool
valid_head size head =
    both (leb (get_or head 0 0) 255)
    (both (leb (get_or head 1 0) 7)
    (both (eqb (get_or head 2 0) (format_number size)) (both (leb (get_or head 3 0) 1) (both (is_quantiser (get_or head 4 0)) (valid_gquants (drop 5 head))))))

unfoldable pub valid : Size → Flat → Bool
valid size d =
    both (lengths_of size d)
    (both (valid_head size d.head) (valid_groups size (is_intra_type (picture_type d)) (group_numbers size) d.macroblocks d.levels))
