-- Vectors, counted in half samples: their range, where they may point, and the predictor. Assumes nothing.
use Rattle.std.specs.Prelude.{ℕ, ◌+◌, ◌-◌, ◌*◌, ◌%◌, Bool, List, ltb, eqb, ℤ, pos, negsuc, ◌+ℤ◌, get_or}
use Rattle.std.specs.Int.Signed.{lt_z}
use Rattle.laws.specs.Choice.{pick, both, either, opposite}
use Rattle.layout.specs.Value.{Vector, zero_vector}
use Rattle.quantiser.specs.Cut.{at_least, at_most}
use Rattle.size.specs.Size.{width, height}
use Rattle.size.specs.declared.Size.{Size}

-- ---- one component
-- z is one of low .. high
abbrev pub between : ℤ → ℤ → ℤ → Bool
between low high z = both (opposite (lt_z z low)) (opposite (lt_z high z))

-- "-32 to 31"
abbrev pub in_range : ℤ → Bool
in_range = between (negsuc 31) (pos 31)

-- of 16 samples from `from` on, moved by z half samples, all that are used lie among the first `end`: "0 ≤ 2x + v and 2x + v + 30 ≤ 2(W - 1)"
abbrev pub inside : ℕ → ℕ → ℤ → Bool
inside end from z = between (pos 0) (pos (2 * (end - 16))) (pos (2 * from) +ℤ z)

-- ---- both
-- "A group is a row of macroblocks": the first row of group `number`, from 0, and the first column of the macroblock at an address in it, from 1
abbrev pub row : ℕ → ℕ
row number = number * 16

abbrev pub column : ℕ → ℕ
column address = (address - 1) * 16

-- "all samples used by the 16 by 16 luminance part must lie in the picture"
abbrev pub in_picture : Size → ℕ → ℕ → Vector → Bool
in_picture size number address v = both (inside (width size) (column address) v.horizontal) (inside (height size) (row number) v.vertical)

-- ---- the predictor
-- the vectors of the macroblocks before, by their numbers in the picture: "A macroblock that is INTRA, unsent .. counts as zero"
abbrev pub Vectors : Type 0
Vectors = ℕ → Vector

-- those of a list, in order
abbrev pub vectors_of : List Vector → Vectors
vectors_of vectors n = get_or vectors n zero_vector

abbrev pub median : ℤ → ℤ → ℤ → ℤ
median a b c = at_least (at_most a b) (at_most (at_least a b) c)

abbrev pub median_vector : Vector → Vector → Vector → Vector
median_vector a b c = record {
  horizontal = median a.horizontal b.horizontal c.horizontal;
  vertical = median a.vertical b.vertical c.vertical;
}

-- ---- of macroblock n of a picture that is so many macroblocks wide
-- "MV1 left"; "outside at the left" it counts as zero
abbrev pub left_of : ℕ → Vectors → ℕ → Vector
left_of across vectors n = pick (eqb (n % across) 0) zero_vector (vectors (n - 1))

-- "where the row above is outside the picture, or the group's own header stands"
abbrev pub bordered : ℕ → Bool → ℕ → Bool
bordered across headed n = either (ltb n across) headed

-- "MV2 above"; at that border it is MV1
abbrev pub above_of : ℕ → Bool → Vectors → ℕ → Vector
above_of across headed vectors n = pick (bordered across headed n) (left_of across vectors n) (vectors (n - across))

-- "MV3 above to the right"; at that border it is MV1, but "MV3 zero in the last column"
abbrev pub right_of : ℕ → Bool → Vectors → ℕ → Vector
right_of across headed vectors n =
    pick (eqb (n % across + 1) across) zero_vector (pick (bordered across headed n) (left_of across vectors n) (vectors (n - across + 1)))

unfoldable pub predictor : ℕ → Bool → Vectors → ℕ → Vector
predictor across headed vectors n = median_vector (left_of across vectors n) (above_of across headed vectors n) (right_of across headed vectors n)
