-- H.263's contents: how a macroblock of a description is predicted, and what is added to it; and so the picture that it gives over a reference. Assumes nothing.
use Rattle.std.specs.Prelude.{Bool, List, ℕ, ◌+◌, ◌*◌, eqb, ℤ, pos, get_or}
use Rattle.laws.specs.Choice.{opposite}
use Rattle.size.specs.declared.Size.{Size}
use Rattle.size.specs.Place.{macroblocks_across, index}
use Rattle.quantiser.specs.Level.{bytes_from}
use Rattle.samples.specs.Content.{Predictions, Content, Contents, difference_of, unless_intra, rendered_store}
use Rattle.layout.specs.Value.{Vector}
use Rattle.layout.specs.Flat.{Flat}
use Rattle.layout.specs.Fields.{type_of, vector_at}
use Rattle.h263_words.specs.Words.{is_intra}
use Rattle.h263_description.specs.Fields.{quantiser_of}
use Rattle.h263_description.specs.Moved.{half_place}
use Rattle.h263_halves.specs.Half.{Plane, half_sample}

-- plane p of a store
abbrev pub plane_in : Size → List ℕ → ℕ → Plane
plane_in size s p y x = get_or s (index size p y x) 0

-- the reference's block at block row y, block column x of plane p, moved by the vector: each of its rows and columns has a place in half samples
abbrev pub source : Size → List ℕ → Vector → ℕ → ℕ → ℕ → ℕ → ℕ → ℕ
source size s v p y x i j = half_sample (plane_in size s p) (half_place p (y * 8 + i) v.vertical) (half_place p (x * 8 + j) v.horizontal)

-- "prediction (0 for INTRA)": every block of a macroblock with this vector
abbrev pub predictions_from : Size → List ℕ → Bool → Vector → Predictions
predictions_from size s intra v p y x i j = unless_intra intra (λ k m. pos (source size s v p y x k m)) i j

-- macroblock n of a description, over a reference
unfoldable pub content_of : Size → Flat → List ℕ → ℕ → Content
content_of size d s n = record {
  sent = opposite (eqb (type_of d n) 0);
  prediction = predictions_from size s (is_intra (type_of d n)) (vector_at d n);
  difference = λ b. difference_of (bytes_from d.levels (n * 384 + b * 64)) (is_intra (type_of d n)) (quantiser_of (macroblocks_across size) d n);
}

-- "A group is a row of macroblocks", "in rows from the top": the number of the one in row r, column c
abbrev pub macroblock_at : Size → ℕ → ℕ → ℕ
macroblock_at size r c = r * macroblocks_across size + c

abbrev pub contents_of : Size → Flat → List ℕ → Contents
contents_of size d s r c = content_of size d s (macroblock_at size r c)

-- the store that a description gives over a reference
unfoldable pub rendered : Size → Flat → List ℕ → List ℕ
rendered size d s = rendered_store size (contents_of size d s) s
