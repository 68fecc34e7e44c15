-- H.261's contents: how a macroblock of a description is predicted, and what is added to it; and so the picture that it gives over a reference. Assumes nothing.
use Rattle.std.specs.Prelude.{List, ℕ, ◌+◌, ◌*◌, eqb, ℤ, pos, get_or}
use Rattle.laws.specs.Choice.{pick, opposite}
use Rattle.laws.specs.Tabulate.{made}
use Rattle.size.specs.Place.{index}
use Rattle.quantiser.specs.Level.{bytes_from}
use Rattle.samples.specs.Content.{Predictions, Content, Contents, difference_of, rendered_store}
use Rattle.h261_words.specs.Words.{is_intra, is_filtered}
use Rattle.h261_groups.specs.declared.Format.{Format}
use Rattle.h261_groups.specs.Format.{size_of}
use Rattle.h261_groups.specs.Order.{macroblock_at}
use Rattle.layout.specs.Value.{Vector}
use Rattle.layout.specs.Flat.{Flat}
use Rattle.layout.specs.Fields.{type_of}
use Rattle.h261_description.specs.Fields.{vector_sent, quantiser_of}
use Rattle.h261_description.specs.Moved.{moved_place}
use Rattle.h261_filter.specs.Filter.{filter_at}
use Rattle.h261_render.specs.declared.Prediction.{Prediction}
use Rattle.h261_render.specs.declared.Prediction.TheVariants.{Intra, Inter, Filtered}

-- the reference's block at block row y, block column x of plane p, moved by the vector
abbrev pub source : Format → List ℕ → Vector → ℕ → ℕ → ℕ → ℕ → ℕ → ℤ
source f s v p y x i j = pos (get_or s (index (size_of f) p (moved_place p (y * 8) v.vertical + i) (moved_place p (x * 8) v.horizontal + j)) 0)

-- "prediction (0 for INTRA)"; FIL is applied to the moved block by itself
abbrev pub predicted : Prediction → (ℕ → ℕ → ℤ) → ℕ → ℕ → ℤ
predicted Intra g i j = pos 0
predicted Inter g i j = g i j
predicted Filtered g i j = filter_at (made g) i j

-- every block of a macroblock with this prediction and vector
abbrev pub predictions_from : Format → List ℕ → Prediction → Vector → Predictions
predictions_from f s k v p y x i j = predicted k (source f s v p y x) i j

abbrev pub prediction_of : ℕ → Prediction
prediction_of type = pick (is_intra type) Intra (pick (is_filtered type) Filtered Inter)

-- macroblock n of a description, over a reference
unfoldable pub content_of : Format → Flat → List ℕ → ℕ → Content
content_of f d s n = record {
  sent = opposite (eqb (type_of d n) 0);
  prediction = predictions_from f s (prediction_of (type_of d n)) (vector_sent d n);
  difference = λ b. difference_of (bytes_from d.levels (n * 384 + b * 64)) (is_intra (type_of d n)) (quantiser_of d n);
}

abbrev pub contents_of : Format → Flat → List ℕ → Contents
contents_of f d s r c = content_of f d s (macroblock_at f r c)

-- the store that a description gives over a reference
unfoldable pub rendered : Format → Flat → List ℕ → List ℕ
rendered f d s = rendered_store (size_of f) (contents_of f d s) s
