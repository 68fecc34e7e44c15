-- When a description is valid. Document 01: "It is valid when fields are in range (levels -127..127, the DC of INTRA an allowed code), vectors obey the rules,
-- every unused MQUANT, vector component and level is 0, and a type with CBP has a nonzero level." Assumes nothing.
use Rattle.std.specs.Prelude.{ℕ, Bool, List, leb, eqb, get_or, drop}
use Rattle.laws.specs.Choice.{pick, both, either, opposite}
use Rattle.h261_words.specs.Words.{is_intra, is_mc, has_mquant, has_cbp}
use Rattle.h261_groups.specs.Format.{format_bit, group_numbers}
use Rattle.h261_description.specs.Vector.{in_range, in_picture}
use Rattle.layout.specs.Flat.{Flat, vector_in}
use Rattle.layout.specs.Numbers.{all, is_zero, is_quantiser, is_level, codes_first}
use Rattle.layout.specs.Valid.{every_macroblock, every_group, has_lengths}
use Rattle.h261_description.specs.Value.{shape}
use Rattle.h261_groups.specs.declared.Format.{Format}
use Rattle.h261_groups.specs.declared.Format.TheVariants.{Qcif, Cif}

-- the vector rules: both components in -15..15, and the samples in the picture. What precedes it doesn't matter: every such vector can be sent
abbrev pub valid_vector : Format → ℕ → ℕ → List ℕ → Bool
valid_vector f number address fields =
    both (both (leb (get_or fields 2 0) 255) (leb (get_or fields 3 0) 255))
    (both (both (in_range (vector_in fields).horizontal) (in_range (vector_in fields).vertical)) (in_picture f number address (vector_in fields)))

abbrev pub valid_levels : ℕ → List ℕ → Bool
valid_levels type levels =
    pick (is_intra type) (both (all is_level levels) (codes_first 6 levels))
    (pick (has_cbp type) (both (all is_level levels) (opposite (all is_zero levels))) (all is_zero levels))

-- the fields and levels of the macroblock at an address of a group
unfoldable pub valid_macroblock : Format → ℕ → ℕ → List ℕ → List ℕ → Bool
valid_macroblock f number address fields levels =
    let type = get_or fields 0 0 in
    both (leb type 10)
    (both (pick (has_mquant type) (is_quantiser (get_or fields 1 0)) (is_zero (get_or fields 1 0)))
    (both (pick (is_mc type) (valid_vector f number address fields) (both (is_zero (get_or fields 2 0)) (is_zero (get_or fields 3 0))))
    (valid_levels type levels)))

-- k macroblocks of a group, from an address on
abbrev pub valid_macroblocks : ℕ → Format → ℕ → ℕ → List ℕ → List ℕ → Bool
valid_macroblocks k f number = every_macroblock (valid_macroblock f number) k

abbrev pub valid_groups : Format → List ℕ → List ℕ → List ℕ → Bool
valid_groups f = every_group 33 (valid_macroblock f)

-- the lengths of a format's description
abbrev pub lengths_of : Format → Flat → Bool
lengths_of f = has_lengths (shape f)

-- those of one format's or the other's
abbrev pub one_format : Flat → Bool
one_format d = either (lengths_of Qcif d) (lengths_of Cif d)

-- "A description has TR, PTYPE bits 1 to 3, the format, GQUANTs"
abbrev pub valid_head : Format → List ℕ → Bool
valid_head f head =
    both (leb (get_or head 0 0) 31)
    (both (leb (get_or head 1 0) 7) (both (eqb (get_or head 2 0) (format_bit f)) (all is_quantiser (drop 3 head))))

unfoldable pub valid : Format → Flat → Bool
valid f d = both (lengths_of f d) (both (valid_head f d.head) (valid_groups f (group_numbers f) d.macroblocks d.levels))
