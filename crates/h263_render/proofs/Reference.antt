-- What a rendered store owes to the reference: a refresh nothing, a picture with no macroblock sent everything; by the contents' laws. Assumes nothing.
use mathlib.Core.Path.{◌≡◌, refl, sym, ap, ◌∙◌}
use mathlib.Core.Bool.{Bool, true}
use mathlib.Core.List.{List}
use Prim.Native.Nat.{ℕ, ◌*◌}
use lib.Dec.{eqb, eqb→eq}
use lib.IntN.{pos}
use Rattle.laws.specs.Choice.{pick}
use Rattle.laws.proofs.Choice.{T_true, true-false}
use Rattle.laws.proofs.Table.{all_at}
use Rattle.size.specs.declared.Size.{Size}
use Rattle.size.specs.Place.{macroblocks_across, macroblocks_down}
use Rattle.samples.specs.Reference.{Alike}
use Rattle.samples.proofs.Reference.{contents_same, unsent_same}
use Rattle.layout.specs.Flat.{Flat}
use Rattle.layout.specs.Fields.{type_of, vector_at}
use Rattle.h263_words.specs.Words.{is_intra}
use Rattle.h263_description.specs.Fields.{refresh}
use Rattle.h263_description.proofs.ValidAt.{refresh_intra}
use Rattle.h263_render.specs.Sample.{source, predictions_from, content_of, macroblock_at, contents_of, rendered}
use Rattle.h263_render.specs.Reference.{nothing_sent, RefreshSame, NothingSame}
use Rattle.h263_render.proofs.Picture.{number_less, is_sent, not_sent}

-- an INTRA macroblock is sent, and predicted from nothing
module _ (size : Size) (d : Flat) (n : ℕ) (h : is_intra (type_of d n) ≡ true) where
  intra_sent : type_of d n ≡ 0 → ⊥
  intra_sent e = true-false (sym h ∙ ap is_intra e)

  intra_none : (s : List ℕ) (p y x i j : ℕ) → predictions_from size s (is_intra (type_of d n)) (vector_at d n) p y x i j ≡ pos 0
  intra_none s p y x i j = ap (λ (b : Bool). pick b (pos 0) (pos (source size s (vector_at d n) p y x i j))) h

  intra_alike : (s t : List ℕ) → Alike (content_of size d s n) (content_of size d t n)
  unfolding content_of
  intra_alike s t = record {
    one = is_sent size d s n intra_sent;
    other = is_sent size d t n intra_sent;
    prediction = λ p y x i j. intra_none s p y x i j ∙ sym (intra_none t p y x i j);
    difference = λ b i j. refl;
  }

pub refresh_same : RefreshSame
unfolding rendered
refresh_same size d s t v h =
    contents_same size (contents_of size d s) (contents_of size d t) s t
    (λ r c hr hc. intra_alike size d (macroblock_at size r c) (refresh_intra size d v (T_true (refresh d) h) (macroblock_at size r c) (number_less size r c hr hc)) s t)

pub nothing_same : NothingSame
unfolding nothing_sent rendered
nothing_same size d s h e =
    unsent_same size (contents_of size d s) s
    (λ r c hr hc. not_sent size d s (macroblock_at size r c)
    (eqb→eq (type_of d (macroblock_at size r c)) 0 (all_at (macroblocks_down size * macroblocks_across size) (λ n. eqb (type_of d n) 0) h (macroblock_at size r c) (number_less size r c hr hc)))) e
