-- Descriptions whose macroblocks are all alike, of every kind: nothing sent, a refresh, and one above the limit. Assumes nothing.
use Rattle.std.specs.Prelude.{ℕ, zero, suc, ◌*◌, List, [], ◌∷◌, ◌++◌, replicate}
use Rattle.size.specs.Place.{macroblocks_down}
use Rattle.layout.specs.Flat.{Flat, flat}
use Rattle.h261_groups.specs.Format.{format_bit, group_count}
use Rattle.h263_description.specs.Value.{format_number, intra_type, inter_type}
use Rattle.coding.specs.declared.Kind.{Kind}
use Rattle.coding.specs.declared.Kind.TheVariants.{H261, H263}
use Rattle.coding.specs.Kind.{shape_of}

-- so many times one list; shut, so that a long one stays short
unfoldable pub repeated : ℕ → List ℕ → List ℕ
repeated zero l = []
repeated (suc n) l = l ++ repeated n l

-- TR and PTYPE 0, each quantiser 1; in H.263 a picture of this type, whose groups have no header
abbrev pub uniform_head : Kind → ℕ → List ℕ
uniform_head (H261 f) type = 0 ∷ 0 ∷ format_bit f ∷ replicate (group_count f) 1
uniform_head (H263 size) type = 0 ∷ 0 ∷ format_number size ∷ type ∷ 1 ∷ replicate (macroblocks_down size) 0

abbrev pub macroblock_count : Kind → ℕ
macroblock_count k = (shape_of k).groups * (shape_of k).each

-- with this head, and for each macroblock these four bytes and 384 levels
unfoldable pub uniform : Kind → ℕ → List ℕ → List ℕ → Flat
uniform k type fields levels = flat (uniform_head k type) (repeated (macroblock_count k) fields) (repeated (macroblock_count k) levels)

-- unsent; and INTRA, without a change of the quantiser and without vector
abbrev pub unsent : List ℕ
unsent = 0 ∷ 0 ∷ 0 ∷ 0 ∷ []

abbrev pub intra : List ℕ
intra = 1 ∷ 0 ∷ 0 ∷ 0 ∷ []

-- six blocks that have their DC code alone; in H.263 one level more, so that sub-QCIF's bits too are more than one block holds
abbrev pub grey_levels : Kind → ℕ → List ℕ
grey_levels (H261 f) code = repeated 6 (code ∷ replicate 63 0)
grey_levels (H263 size) code = repeated 6 (code ∷ 1 ∷ replicate 62 0)

-- and six that have 63 levels more, none of which is in a table: each is an escape, of 20 bits or of 22
abbrev pub heavy_levels : List ℕ
heavy_levels = replicate 384 100

-- ---- nothing is sent
abbrev pub still : Kind → Flat
still k = uniform k inter_type unsent (replicate 384 0)

-- ---- a refresh, all of whose DC codes are this: in H.261 all of its samples are
abbrev pub grey : Kind → ℕ → Flat
grey k code = uniform k intra_type intra (grey_levels k code)

-- ---- a refresh above the limit
abbrev pub heavy : Kind → Flat
heavy k = uniform k intra_type intra heavy_levels
