-- A macroblock of a description, sent or kept, is what the definition says; the quantiser that the loop carries is the one that stands. Assumes nothing.
use mathlib.Core.Path.{◌≡◌, refl, sym, ap, subst, ◌∙◌}
use mathlib.Core.Bool.{Bool, true, false}
use mathlib.Core.Logic.{⊎_elim}
use mathlib.Core.List.{List}
use Prim.Native.Nat.{ℕ, zero, suc, ◌+◌, ◌-◌, ◌*◌, ◌/◌, ◌%◌, ◌≤◌, ◌<◌, zero-le}
use native.Mathlib.Nat.{lt_of_lt_of_le}
use native.Mathlib.Decide.{ℕ_discrete}
use native.Mathlib.Omega.{arith}
use borrow.Author.Tests.{eq-eqb, ne_eqb}
use lib.Dec.{T, eqb}
use lib.ListN.{length}
use Rattle.laws.proofs.Rows.{lt-or-ge}
use Rattle.laws.specs.Choice.{pick, both}
use Rattle.laws.proofs.Choice.{both_right}
use Rattle.size.specs.declared.Size.{Size}
use Rattle.size.specs.Place.{macroblocks_across, macroblocks_down}
use Rattle.quantiser.specs.Level.{bytes_from}
use Rattle.samples.specs.Content.{Values, difference_of, sent_values, kept_values, content_values}
use Rattle.samples.specs.Wrote.{Macroblock}
use Rattle.samples.specs.Ready.{Ready}
use Rattle.samples.proofs.Turns.{macroblock_at_lem, kept_content, sent_content}
use Rattle.samples.proofs.Rendered.{Order}
use Rattle.h261_words.specs.Words.{is_intra, is_mc, is_filtered, has_mquant}
use Rattle.h261_groups.specs.declared.Format.{Format}
use Rattle.h261_groups.specs.declared.Format.TheVariants.{Qcif, Cif}
use Rattle.h261_groups.specs.Format.{size_of}
use Rattle.h261_groups.specs.Order.{macroblock_count, row_of, column_of, macroblock_at}
use Rattle.h261_groups.proofs.Numbers.{number_row, number_column, of_number, of_row, of_column}
use Rattle.h261_groups.proofs.Blocks.{group_of, address_of, number_less}
use Rattle.layout.specs.Value.{Vector}
use Rattle.h261_description.specs.Vector.{in_range, in_picture}
use Rattle.layout.specs.Flat.{Flat, number_of}
use Rattle.h261_description.specs.Valid.{valid}
use Rattle.layout.specs.Fields.{type_of, quant_of, horizontal_of, vertical_of, vector_at}
use Rattle.h261_description.specs.Fields.{gquant_of, vector_sent, quantiser_before, quantiser_of}
use Rattle.h261_description.proofs.ValidAt.{Fine, fine_at, head_length_lem, macroblocks_length_lem, levels_length_lem, quantiser_at}
use Rattle.layout.proofs.Levels.{is_quantiser_lem}
use Rattle.h261_description.specs.Moved.{Points}
use Rattle.h261_description.proofs.Moved.{points_in}
use Rattle.h261_render.specs.declared.Prediction.{Prediction}
use Rattle.h261_render.specs.declared.Prediction.TheVariants.{Intra, Inter, Filtered}
use Rattle.h261_render.specs.Sample.{predictions_from, prediction_of, content_of, contents_of}
use Rattle.h261_render.specs.Turn.{intra_of, vector_from}

-- the order of macroblocks
pub order : (f : Format) → Order (size_of f) (macroblock_count f) (macroblock_at f) (row_of f) (column_of f)
order f = record { less = number_less f; row_of = number_row f; column_of = number_column f; back = of_number f }

-- the content of macroblock n is the one in its row and column
pub content_there : {t u : List ℕ} (f : Format) (d : Flat) (s : List ℕ) (n : ℕ) → Macroblock (size_of f) (row_of f n) (column_of f n) (content_values (size_of f) s (content_of f d s n)) t u
    → Macroblock (size_of f) (row_of f n) (column_of f n) (content_values (size_of f) s (contents_of f d s (row_of f n) (column_of f n))) t u
content_there {t} {u} f d s n h =
    subst (λ (k : ℕ). Macroblock (size_of f) (row_of f n) (column_of f n) (content_values (size_of f) s (content_of f d s k)) t u) (sym (of_number f n)) h

-- ---- not sent
pub not_sent : (f : Format) (d : Flat) (s : List ℕ) (n : ℕ) → type_of d n ≡ 0 → (content_of f d s n).sent ≡ false
unfolding content_of
not_sent f d s n e = simp (eq-eqb (type_of d n) 0 e)

pub kept_all : {z : Size} {r c : ℕ} {t u : List ℕ} (f : Format) (n : ℕ) (d : Flat) (s : List ℕ) → z ≡ size_of f → r ≡ row_of f n → c ≡ column_of f n → type_of d n ≡ 0
    → Macroblock z r c (kept_values z s) t u → Macroblock (size_of f) (row_of f n) (column_of f n) (content_values (size_of f) s (content_of f d s n)) t u
kept_all {r = r} {c = c} {t = t} {u = u} f n d s ez er ec e h =
    macroblock_at_lem er ec (kept_content s (content_of f d s n) (not_sent f d s n e) (subst (λ (z : Size). Macroblock z r c (kept_values z s) t u) ez h))

-- ---- sent
pub is_sent : (f : Format) (d : Flat) (s : List ℕ) (n : ℕ) → (type_of d n ≡ 0 → ⊥) → (content_of f d s n).sent ≡ true
unfolding content_of
is_sent f d s n e = simp (ne_eqb (type_of d n) 0 e)

intra_is : (type : ℕ) → intra_of (prediction_of type) ≡ is_intra type
intra_is type = go (is_intra type) (is_filtered type)
  where
    go : (a b : Bool) → intra_of (pick a Intra (pick b Filtered Inter)) ≡ a
    go true b = refl
    go false true = refl
    go false false = refl

pub sent_all : {r c q : ℕ} {k : Prediction} {v : Vector} {t u : List ℕ} (f : Format) (n : ℕ) (d : Flat) (s : List ℕ) → r ≡ row_of f n → c ≡ column_of f n → (type_of d n ≡ 0 → ⊥)
    → k ≡ prediction_of (type_of d n) → v ≡ vector_sent d n → q ≡ quantiser_of d n
    → Macroblock (size_of f) r c (sent_values (predictions_from f s k v) (λ b. difference_of (bytes_from d.levels (n * 384 + b * 64)) (intra_of k) q)) t u
    → Macroblock (size_of f) (row_of f n) (column_of f n) (content_values (size_of f) s (content_of f d s n)) t u
unfolding content_of
sent_all {r} {c} {q} {k} {v} {t} {u} f n d s er ec e ek ev eq h =
    macroblock_at_lem er ec (sent_content s (content_of f d s n) (is_sent f d s n e) (subst (λ (g : Values). Macroblock (size_of f) r c g t u) same h))
  where
    same : sent_values (predictions_from f s k v) (λ b. difference_of (bytes_from d.levels (n * 384 + b * 64)) (intra_of k) q) ≡ sent_values (content_of f d s n).prediction (content_of f d s n).difference
    same z = sent_values (predictions_from f s (ek z) (ev z)) (λ b. difference_of (bytes_from d.levels (n * 384 + b * 64)) ((ap intra_of ek ∙ intra_is (type_of d n)) z) (eq z))

-- the vector of a valid description points into the picture
pub sent_points : (f : Format) (d : Flat) → T (valid f d) → (n : ℕ) → n < macroblock_count f → Points f (row_of f n) (column_of f n) (vector_from (horizontal_of d n) (vertical_of d n))
sent_points f d t n l = go (is_mc (type_of d n)) refl
  where
    fine : Fine f d n
    fine = fine_at f d t n l

    less : (m k : ℕ) → k < m → k * 16 + 0 + 16 ≤ m * 2 * 8 + 0
    less m k h = omega arith

    still : Points f (row_of f n) (column_of f n) (vector_from 0 0)
    still = record { left = zero-le; right = less (macroblocks_across (size_of f)) (column_of f n) (of_column f n); top = zero-le; bottom = less (macroblocks_down (size_of f)) (row_of f n) (of_row f n l) }

    go : (b : Bool) → is_mc (type_of d n) ≡ b → Points f (row_of f n) (column_of f n) (vector_from (horizontal_of d n) (vertical_of d n))
    go true e =
        points_in f n (vector_at d n) l
        (both_right (both (in_range (number_of (horizontal_of d n))) (in_range (number_of (vertical_of d n)))) (in_picture f (group_of f n) (address_of n) (vector_at d n)) (fine.moving e))
    go false e = subst (λ (v : Vector). Points f (row_of f n) (column_of f n) v) (λ i. vector_from (sym (fine.still e).0 i) (sym (fine.still e).1 i)) still

pub points_at : {f : Format} {r c : ℕ} {v : Vector} (n : ℕ) → r ≡ row_of f n → c ≡ column_of f n → Points f (row_of f n) (column_of f n) v → Points f r c v
points_at {f} {r} {c} {v} n er ec h = subst (λ (m : ℕ). Points f m c v) (sym er) (subst (λ (m : ℕ). Points f (row_of f n) m v) (sym ec) h)

-- the kinds of a type that is sent
pub kind_intra : (k : ℕ) → 1 ≤ k → k < 3 → Intra ≡ prediction_of k
kind_intra zero l m = absurd (omega arith)
kind_intra (suc zero) l m = refl
kind_intra (suc (suc zero)) l m = refl
kind_intra (suc (suc (suc k))) l m = absurd (omega arith)

pub kind_inter : (k : ℕ) → 3 ≤ k → k < 8 → Inter ≡ prediction_of k
kind_inter k l m = at (k - 3) (omega arith) (omega arith)
  where
    at : (o : ℕ) → k ≡ o + 3 → o < 5 → Inter ≡ prediction_of k
    at zero e h = sym (ap prediction_of e)
    at (suc zero) e h = sym (ap prediction_of e)
    at (suc (suc zero)) e h = sym (ap prediction_of e)
    at (suc (suc (suc zero))) e h = sym (ap prediction_of e)
    at (suc (suc (suc (suc zero)))) e h = sym (ap prediction_of e)
    at (suc (suc (suc (suc (suc o))))) e h = absurd (omega arith)

pub kind_filtered : (k : ℕ) → 8 ≤ k → k ≤ 10 → Filtered ≡ prediction_of k
kind_filtered k l m = at (k - 8) (omega arith) (omega arith)
  where
    at : (o : ℕ) → k ≡ o + 8 → o < 3 → Filtered ≡ prediction_of k
    at zero e h = sym (ap prediction_of e)
    at (suc zero) e h = sym (ap prediction_of e)
    at (suc (suc zero)) e h = sym (ap prediction_of e)
    at (suc (suc (suc o))) e h = absurd (omega arith)

-- ---- the quantiser
first_is : (d : Flat) (g : ℕ) → gquant_of d g ≡ quantiser_before d g 0
unfolding quantiser_before
first_is d g = refl

-- what stood before macroblock n: the group's where it is the first
stood_is : (d : Flat) (n q : ℕ) → ((n % 33 ≡ 0 → ⊥) → q ≡ quantiser_before d (n / 33) (n % 33)) → pick (eqb (n % 33) 0) (gquant_of d (n / 33)) q ≡ quantiser_before d (n / 33) (n % 33)
stood_is d n q h = go (ℕ_discrete (n % 33) 0)
  where
    go : Dec (n % 33 ≡ 0) → pick (eqb (n % 33) 0) (gquant_of d (n / 33)) q ≡ quantiser_before d (n / 33) (n % 33)
    go (yes e) = simp (eq-eqb (n % 33) 0 e) (first_is d (n / 33) ∙ ap (quantiser_before d (n / 33)) (sym e))
    go (no e) = simp (ne_eqb (n % 33) 0 e) (h e)

pub stands_is : (d : Flat) (n q b r : ℕ) → ((n % 33 ≡ 0 → ⊥) → q ≡ quantiser_before d (n / 33) (n % 33)) → b ≡ pick (eqb (n % 33) 0) (gquant_of d (n / 33)) q
    → r ≡ pick (has_mquant (type_of d n)) (quant_of d n) b → r ≡ quantiser_of d n
unfolding quantiser_of
stands_is d n q b r h eb er = er ∙ ap (λ (o : ℕ). pick (has_mquant (type_of d n)) (quant_of d n) o) (eb ∙ stood_is d n q h)

-- macroblock n is not the last of its group, if the next one is not the first
pub not_last : (n : ℕ) → ((n + 1) % 33 ≡ 0 → ⊥) → n % 33 < 32
not_last n h = ⊎_elim (λ l. l) (λ l. absurd (h (omega arith))) (lt-or-ge (n % 33) 32)

-- ---- where a valid description has macroblock n
pub record Places (d : Flat) (n : ℕ) : Type 0 where
  pub small : n < 396
  pub head : 3 + n / 33 < length d.head
  pub macroblock : n * 4 + 4 ≤ length d.macroblocks
  pub levels : n * 384 + 384 ≤ length d.levels

pub places : (f : Format) (d : Flat) → T (valid f d) → (n : ℕ) → n < macroblock_count f → Places d n
places f d t n l = record {
  small = lt_of_lt_of_le l (count_small f);
  head = omega (arith, head_length_lem f d t);
  macroblock = omega (arith, macroblocks_length_lem f d t);
  levels = omega (arith, levels_length_lem f d t);
}
  where
    count_small : (f : Format) → macroblock_count f ≤ 396
    count_small Qcif = omega arith
    count_small Cif = omega arith

-- its quantiser
pub quantiser_fine : (f : Format) (d : Flat) → T (valid f d) → (n : ℕ) → n < macroblock_count f → {q : ℕ} → q ≡ quantiser_of d n → (1 ≤ q) × (q ≤ 31)
quantiser_fine f d t n l e = subst (λ (q : ℕ). (1 ≤ q) × (q ≤ 31)) (sym e) (is_quantiser_lem (quantiser_of d n) (quantiser_at f d t n l))

-- and where it lies
pub row_in : (f : Format) (n : ℕ) {r : ℕ} → r ≡ row_of f n → n < macroblock_count f → r < macroblocks_down (size_of f)
row_in f n e l = subst (λ (m : ℕ). m < macroblocks_down (size_of f)) (sym e) (of_row f n l)

pub column_in : (f : Format) (n : ℕ) {c : ℕ} → c ≡ column_of f n → c < macroblocks_across (size_of f)
column_in f n e = subst (λ (m : ℕ). m < macroblocks_across (size_of f)) (sym e) (of_column f n)

pub ready_for : {f z : Size} {r c n m : ℕ} → z ≡ f → Ready f r c n m → Ready z r c n m
ready_for {r = r} {c = c} {n = n} {m = m} e h = subst (λ (z : Size). Ready z r c n m) (sym e) h
