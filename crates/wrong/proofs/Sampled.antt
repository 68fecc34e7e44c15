-- The first sample of a grey picture is its code. Assumes nothing.
use Prim.Native.Nat.{ℕ}
use mathlib.Core.Path.{◌≡◌, refl, sym, ap, ◌∙◌}
use mathlib.Core.Bool.{true}
use mathlib.Core.List.{List, ◌∷◌, ◌++◌}
use lib.Dec.{eqb, lit<}
use lib.IntN.{pos}
use lib.ListN.{replicate, get_or, take, drop, take-append-drop}
use Rattle.h261_words.specs.Words.{is_intra}
use Rattle.h261_groups.specs.declared.Format.TheVariants.{Qcif}
use Rattle.h261_groups.specs.Format.{size_of}
use Rattle.size.specs.Place.{cell_of}
use Rattle.layout.specs.Flat.{Flat}
use Rattle.layout.specs.Fields.{type_of}
use Rattle.h261_description.specs.Fields.{vector_sent, quantiser_of}
use Rattle.laws.specs.Choice.{pick, opposite}
use Rattle.laws.specs.Row.{row}
use Rattle.laws.specs.Tabulate.{made}
use Rattle.laws.specs.Floor.{floor_divided}
use Rattle.laws.specs.Sum.{sum_z}
use Rattle.quantiser.specs.Cut.{cut, at_least, at_most}
use Rattle.quantiser.specs.Level.{bytes_from, level_of, magnitude, coefficient as dequantised, direct, value_at as level_value, position_at, coefficient_at}
use Rattle.quantiser.specs.Sample.{sample_of}
use Rattle.inverse.specs.Inverse.{A, S, cosine, output, inverse_at}
use Rattle.samples.specs.Content.{difference_of, sent_values, content_values, picture_values, sample_at}
use Rattle.h261_render.specs.Sample.{source, predicted, prediction_of, content_of, contents_of, rendered}
use Rattle.h261_render.proofs.Rendered.{rendered_at}
use Rattle.coding.specs.declared.Kind.TheVariants.{H261}
use Rattle.instances.specs.Uniform.{repeated, uniform, grey}
use Rattle.instances.proofs.Codes.{Code, one, two, code_of}

abbrev flat : Code → Flat
flat c = grey (H261 Qcif) (code_of c)

type_first : (c : Code) → type_of (flat c) 0 ≡ 1
unfolding uniform repeated
type_first one = refl
type_first two = refl

levels_first : (c : Code) → take 64 (flat c).levels ≡ code_of c ∷ replicate 63 0
unfolding uniform repeated
levels_first one = refl
levels_first two = refl

difference_in : (c : Code) (rest : List ℕ) (quantiser : ℕ) → difference_of (bytes_from ((code_of c ∷ replicate 63 0) ++ rest) 0) true quantiser 0 0 ≡ pos (code_of c)
unfolding difference_of made row coefficient_at position_at level_value level_of magnitude dequantised direct inverse_at output floor_divided S sum_z A cosine cut at_least at_most
difference_in one rest quantiser = refl
difference_in two rest quantiser = refl

difference_first : (c : Code) (quantiser : ℕ) → difference_of (bytes_from (flat c).levels 0) true quantiser 0 0 ≡ pos (code_of c)
difference_first c quantiser =
    ap (λ (l : List ℕ). difference_of (bytes_from l 0) true quantiser 0 0) (sym (take-append-drop 64 (flat c).levels) ∙ ap (λ (l : List ℕ). l ++ drop 64 (flat c).levels) (levels_first c))
    ∙ difference_in c (drop 64 (flat c).levels) quantiser

sample_first : (c : Code) → sample_of (pos 0) (pos (code_of c)) ≡ code_of c
unfolding sample_of cut at_least at_most
sample_first one = refl
sample_first two = refl

value_first : (c : Code) (under : List ℕ) → sample_at (size_of Qcif) (contents_of Qcif (flat c) under) under 0 0 0 ≡ code_of c
unfolding picture_values content_values sent_values content_of
value_first c under =
    ap (λ (k : ℕ). pick (opposite (eqb k 0))
    (sample_of (predicted (prediction_of k) (source Qcif under (vector_sent (flat c) 0) 0 0 0) 0 0) (difference_of (bytes_from (flat c).levels 0) (is_intra k) (quantiser_of (flat c) 0) 0 0))
    (cell_of (size_of Qcif) under 0 0 0 0 0)) (type_first c)
    ∙ ap (sample_of (pos 0)) (difference_first c (quantiser_of (flat c) 0)) ∙ sample_first c

pub grey_sample : (c : Code) (under : List ℕ) → get_or (rendered Qcif (grey (H261 Qcif) (code_of c)) under) 0 0 ≡ code_of c
grey_sample c under = rendered_at Qcif (flat c) under 0 0 0 (lit< tt) (lit< tt) (lit< tt) ∙ value_first c under
