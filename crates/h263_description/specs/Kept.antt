-- The vectors that a description's bytes say, and the predictor of them: how the code keeps them, and what it asks. Assumes nothing.
use Rattle.std.specs.Prelude.{ℕ, zero, suc, ◌+◌, ◌*◌, ◌%◌, ◌≤◌, ◌<◌, max, min, ◌≡◌, List, [], ◌∷◌, ◌++◌, T, length, get_or}
use Rattle.layout.specs.Value.{Vector}
use Rattle.layout.specs.Flat.{number_of, byte_vector}
use Rattle.h263_description.specs.declared.predicted.Kept.{Kept}
use Rattle.h263_description.specs.Vector.{Vectors, in_range}
use Rattle.h263_description.specs.Landing.{residue_of}

-- each component kept as 32 more than it is
abbrev pub kept_vector : Vector → Kept
kept_vector v = record { horizontal = residue_of v.horizontal; vertical = residue_of v.vertical }

-- the median of what is kept
abbrev pub median_kept : Kept → Kept → Kept → Kept
median_kept a b c = record {
  horizontal = max (min a.horizontal b.horizontal) (min (max a.horizontal b.horizontal) c.horizontal);
  vertical = max (min a.vertical b.vertical) (min (max a.vertical b.vertical) c.vertical);
}

-- the vectors that the four bytes of each macroblock say, whatever its type: "The description's unused vector bytes are 0"
abbrev pub vectors_in : List ℕ → Vectors
vectors_in macroblocks n = byte_vector (get_or macroblocks (n * 4 + 2) 0) (get_or macroblocks (n * 4 + 3) 0)

-- the first n of them
unfoldable pub first_vectors : List ℕ → ℕ → List Vector
first_vectors macroblocks zero = []
first_vectors macroblocks (suc n) = first_vectors macroblocks n ++ vectors_in macroblocks n ∷ []

-- macroblock k has its four bytes, and says a vector in range
pub record BytesNear (macroblocks : List ℕ) (k : ℕ) : Type 0 where
  pub whole : k * 4 + 4 ≤ length macroblocks
  pub horizontally : T (in_range (vectors_in macroblocks k).horizontal)
  pub vertically : T (in_range (vectors_in macroblocks k).vertical)

-- all before macroblock n do
pub record PredictorAsked (macroblocks : List ℕ) (across n column : ℕ) : Type 0 where
  pub wide : 1 ≤ across
  pub columned : column ≡ n % across
  pub before : (k : ℕ) → k < n → BytesNear macroblocks k
