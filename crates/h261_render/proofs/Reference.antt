-- What a rendered store owes to the reference: a refresh nothing, a picture with no macroblock sent everything; by the contents' laws. Assumes nothing.
use mathlib.Core.Path.{◌≡◌, refl, sym, ap, ◌∙◌}
use mathlib.Core.Logic.{◌⊎◌, inl, inr, ⊎_elim}
use mathlib.Core.List.{List}
use Prim.Native.Nat.{ℕ, suc}
use native.Mathlib.Decide.{ℕ_discrete}
use native.Mathlib.Omega.{arith}
use borrow.Author.Tests.{ne_eqb}
use lib.Dec.{T, eqb, eqb→eq}
use lib.IntN.{ℤ, pos}
use Rattle.laws.proofs.Table.{all_at}
use Rattle.samples.specs.Reference.{Alike}
use Rattle.samples.proofs.Reference.{contents_same, unsent_same}
use Rattle.h261_words.specs.Words.{is_intra}
use Rattle.h261_groups.specs.declared.Format.{Format}
use Rattle.h261_groups.specs.Format.{size_of}
use Rattle.h261_groups.specs.Order.{macroblock_count, macroblock_at}
use Rattle.h261_groups.proofs.Blocks.{number_less}
use Rattle.layout.specs.Flat.{Flat}
use Rattle.layout.specs.Fields.{type_of}
use Rattle.h261_description.specs.Fields.{vector_sent, refresh, nothing_sent}
use Rattle.h261_render.specs.Sample.{predictions_from, prediction_of, content_of, contents_of, rendered}
use Rattle.h261_render.specs.Reference.{RefreshSame, NothingSame}
use Rattle.h261_render.proofs.Picture.{is_sent, not_sent}

intra_types : (k : ℕ) → T (is_intra k) → (k ≡ 1) ⊎ (k ≡ 2)
intra_types k t = go (ℕ_discrete k 1) (ℕ_discrete k 2)
  where
    go : Dec (k ≡ 1) → Dec (k ≡ 2) → (k ≡ 1) ⊎ (k ≡ 2)
    go (yes e) d = inl e
    go (no n) (yes e) = inr e
    go (no n) (no m) = absurd (simp (ne_eqb k 1 n, ne_eqb k 2 m) at t)

-- an INTRA macroblock is sent, and predicted from nothing
module _ (f : Format) (d : Flat) (n : ℕ) (h : T (is_intra (type_of d n))) where
  intra_sent : type_of d n ≡ 0 → ⊥
  intra_sent z = ⊎_elim (λ e. no (sym e ∙ z)) (λ e. no (sym e ∙ z)) (intra_types (type_of d n) h)
    where
      no : {k : ℕ} → suc k ≡ 0 → ⊥
      no e = omega arith

  intra_none : (s : List ℕ) (p y x i j : ℕ) → predictions_from f s (prediction_of (type_of d n)) (vector_sent d n) p y x i j ≡ pos 0
  intra_none s p y x i j = ⊎_elim (ap of) (ap of) (intra_types (type_of d n) h)
    where
      of : ℕ → ℤ
      of k = predictions_from f s (prediction_of k) (vector_sent d n) p y x i j

  intra_alike : (s t : List ℕ) → Alike (content_of f d s n) (content_of f d t n)
  unfolding content_of
  intra_alike s t = record {
    one = is_sent f d s n intra_sent;
    other = is_sent f d t n intra_sent;
    prediction = λ p y x i j. intra_none s p y x i j ∙ sym (intra_none t p y x i j);
    difference = λ b i j. refl;
  }

pub refresh_same : RefreshSame
unfolding refresh rendered
refresh_same f d s t h =
    contents_same (size_of f) (contents_of f d s) (contents_of f d t) s t
    (λ r c hr hc. intra_alike f d (macroblock_at f r c) (all_at (macroblock_count f) (λ n. is_intra (type_of d n)) h (macroblock_at f r c) (number_less f r c hr hc)) s t)

pub nothing_same : NothingSame
unfolding nothing_sent rendered
nothing_same f d s h e =
    unsent_same (size_of f) (contents_of f d s) s
    (λ r c hr hc. not_sent f d s (macroblock_at f r c) (eqb→eq (type_of d (macroblock_at f r c)) 0 (all_at (macroblock_count f) (λ n. eqb (type_of d n) 0) h (macroblock_at f r c) (number_less f r c hr hc)))) e
