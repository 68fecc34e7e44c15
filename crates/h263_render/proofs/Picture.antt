-- A macroblock of a description, sent or kept, is what the definition says; the quantiser that the loop carries is the one that stands. Assumes nothing.
use mathlib.Core.Path.{◌≡◌, refl, sym, ap, subst, ◌∙◌}
use mathlib.Core.Bool.{Bool, true, false}
use mathlib.Core.List.{List}
use Prim.Native.Nat.{ℕ, zero, suc, ◌+◌, ◌*◌, ◌/◌, ◌%◌, ◌≤◌, ◌<◌}
use native.Mathlib.Nat.{div-add-mod', mod-lt, lt_of_lt_of_le}
use native.Mathlib.Omega.{arith}
use borrow.Author.Tests.{eq-eqb, ne_eqb}
use lib.Dec.{T, leb, leb→le, eqb}
use lib.ListN.{length}
use Rattle.laws.specs.Choice.{pick, both}
use Rattle.laws.proofs.Choice.{both_left, both_right}
use Rattle.laws.proofs.Rows.{rows_less, rows_same, rows_in}
use Rattle.size.specs.declared.Size.{Size}
use Rattle.size.specs.declared.Size.TheVariants.{SubQcif, Qcif, Cif}
use Rattle.size.specs.Place.{macroblocks_across, macroblocks_down}
use Rattle.quantiser.specs.Level.{bytes_from}
use Rattle.samples.specs.Content.{Values, difference_of, sent_values, kept_values, content_values}
use Rattle.samples.specs.Wrote.{Macroblock}
use Rattle.samples.proofs.Turns.{macroblock_at_lem, kept_content, sent_content}
use Rattle.samples.proofs.Rendered.{Order}
use Rattle.layout.specs.Flat.{Flat}
use Rattle.layout.specs.Fields.{type_of, quant_of, vector_at}
use Rattle.layout.specs.Numbers.{is_quantiser}
use Rattle.h263_words.specs.Words.{is_intra, is_inter}
use Rattle.h263_description.specs.Fields.{stands, gquant_of, quantiser_changed, quantiser_before, quantiser_of}
use Rattle.h263_description.specs.Valid.{valid}
use Rattle.h263_description.proofs.Groups.{some_across, row_in}
use Rattle.h263_description.proofs.Quantiser.{quantiser_before_lem}
use Rattle.h263_description.proofs.ValidAt.{head_length_lem, macroblocks_length_lem, levels_length_lem}
use Rattle.h263_render.specs.Sample.{predictions_from, content_of, macroblock_at, contents_of}

-- ---- the order of macroblocks: in rows
of_number : (size : Size) (n : ℕ) → macroblock_at size (n / macroblocks_across size) (n % macroblocks_across size) ≡ n
of_number size n = div-add-mod' n (macroblocks_across size)

number_of_lem : (size : Size) (r c : ℕ) → c < macroblocks_across size
    → (macroblock_at size r c / macroblocks_across size ≡ r) × (macroblock_at size r c % macroblocks_across size ≡ c)
number_of_lem size r c l =
    let a = macroblocks_across size in
    let n = macroblock_at size r c in
    rows_same a (n / a) (n % a) r c (mod-lt n (some_across size)) l (of_number size n)

pub number_less : (size : Size) (r c : ℕ) → r < macroblocks_down size → c < macroblocks_across size → macroblock_at size r c < macroblocks_down size * macroblocks_across size
number_less size r c l m = rows_in (macroblocks_down size) (macroblocks_across size) r c l m

pub order : (size : Size) → Order size (macroblocks_down size * macroblocks_across size) (macroblock_at size) (λ n. n / macroblocks_across size) (λ n. n % macroblocks_across size)
order size = record { less = number_less size; row_of = λ r c l. (number_of_lem size r c l).0; column_of = λ r c l. (number_of_lem size r c l).1; back = of_number size }

-- the content of macroblock n is the one in its row and column
pub content_there : {t u : List ℕ} (size : Size) (d : Flat) (s : List ℕ) (n : ℕ)
    → Macroblock size (n / macroblocks_across size) (n % macroblocks_across size) (content_values size s (content_of size d s n)) t u
    → Macroblock size (n / macroblocks_across size) (n % macroblocks_across size) (content_values size s (contents_of size d s (n / macroblocks_across size) (n % macroblocks_across size))) t u
content_there {t} {u} size d s n h =
    subst (λ (k : ℕ). Macroblock size (n / macroblocks_across size) (n % macroblocks_across size) (content_values size s (content_of size d s k)) t u) (sym (of_number size n)) h

-- ---- not sent
pub not_sent : (size : Size) (d : Flat) (s : List ℕ) (n : ℕ) → type_of d n ≡ 0 → (content_of size d s n).sent ≡ false
unfolding content_of
not_sent size d s n e = simp (eq-eqb (type_of d n) 0 e)

pub kept_all : {r c q e : ℕ} {t u : List ℕ} (size : Size) (n : ℕ) (d : Flat) (s : List ℕ) → r ≡ q → c ≡ e → type_of d n ≡ 0
    → Macroblock size r c (kept_values size s) t u → Macroblock size q e (content_values size s (content_of size d s n)) t u
kept_all size n d s er ec e h = macroblock_at_lem er ec (kept_content s (content_of size d s n) (not_sent size d s n e) h)

-- ---- sent
pub is_sent : (size : Size) (d : Flat) (s : List ℕ) (n : ℕ) → (type_of d n ≡ 0 → ⊥) → (content_of size d s n).sent ≡ true
unfolding content_of
is_sent size d s n e = simp (ne_eqb (type_of d n) 0 e)

pub sent_all : {r c k e q : ℕ} {intra : Bool} {t u : List ℕ} (size : Size) (n : ℕ) (d : Flat) (s : List ℕ) → r ≡ k → c ≡ e → (type_of d n ≡ 0 → ⊥)
    → intra ≡ is_intra (type_of d n) → q ≡ quantiser_of (macroblocks_across size) d n
    → Macroblock size r c (sent_values (predictions_from size s intra (vector_at d n)) (λ b. difference_of (bytes_from d.levels (n * 384 + b * 64)) intra q)) t u
    → Macroblock size k e (content_values size s (content_of size d s n)) t u
unfolding content_of
sent_all {r} {c} {q = q} {intra = intra} {t = t} {u = u} size n d s er ec e ei eq h =
    macroblock_at_lem er ec (sent_content s (content_of size d s n) (is_sent size d s n e) (subst (λ (g : Values). Macroblock size r c g t u) same h))
  where
    same : sent_values (predictions_from size s intra (vector_at d n)) (λ b. difference_of (bytes_from d.levels (n * 384 + b * 64)) intra q) ≡ sent_values (content_of size d s n).prediction (content_of size d s n).difference
    same z = sent_values (predictions_from size s (ei z) (vector_at d n)) (λ b. difference_of (bytes_from d.levels (n * 384 + b * 64)) (ei z) (eq z))

-- a type that is sent and isn't INTRA is INTER
pub kind_inter : (k : ℕ) → k ≤ 4 → (k ≡ 0 → ⊥) → is_intra k ≡ false → is_inter k ≡ true
kind_inter zero l n e = absurd (n refl)
kind_inter (suc zero) l n e = sym e
kind_inter (suc (suc zero)) l n e = sym e
kind_inter (suc (suc (suc zero))) l n e = refl
kind_inter (suc (suc (suc (suc zero)))) l n e = refl
kind_inter (suc (suc (suc (suc (suc k))))) l n e = absurd (omega arith)

-- ---- the quantiser
pub stands_is : {across a q b r : ℕ} (d : Flat) (n : ℕ) → a ≡ across → q ≡ quantiser_before across d n
    → b ≡ pick (both (eqb (n % a) 0) (stands (gquant_of d (n / a)))) (gquant_of d (n / a)) q → r ≡ quantiser_changed b (quant_of d n) → r ≡ quantiser_of across d n
unfolding quantiser_before
stands_is d n ea eq eb er =
    er ∙ ap (λ (b : ℕ). quantiser_changed b (quant_of d n)) (eb ∙ (λ i. pick (both (eqb (n % ea i) 0) (stands (gquant_of d (n / ea i)))) (gquant_of d (n / ea i)) (eq i)))

pub quantiser_fine : (size : Size) (d : Flat) → T (valid size d) → (n : ℕ) {q : ℕ} → q ≡ quantiser_of (macroblocks_across size) d n → (1 ≤ q) × (q ≤ 31)
quantiser_fine size d t n e =
    subst (λ (q : ℕ). (1 ≤ q) × (q ≤ 31)) (sym e) (is_quantiser_lem (quantiser_of (macroblocks_across size) d n) (quantiser_before_lem size d t (macroblocks_across size) (suc n)))
  where
    is_quantiser_lem : (q : ℕ) → T (is_quantiser q) → (1 ≤ q) × (q ≤ 31)
    is_quantiser_lem q u = (leb→le 1 q (both_left (leb 1 q) (leb q 31) u), leb→le q 31 (both_right (leb 1 q) (leb q 31) u))

-- ---- where a valid description has macroblock n
pub record Places (size : Size) (d : Flat) (n : ℕ) : Type 0 where
  pub small : n < 396
  pub head : 5 + n / macroblocks_across size < length d.head
  pub macroblock : n * 4 + 4 ≤ length d.macroblocks
  pub levels : n * 384 + 384 ≤ length d.levels

pub count_small : (size : Size) → macroblocks_down size * macroblocks_across size ≤ 396
count_small SubQcif = omega arith
count_small Qcif = omega arith
count_small Cif = omega arith

pub places : (size : Size) (d : Flat) → T (valid size d) → (n : ℕ) → n < macroblocks_down size * macroblocks_across size → Places size d n
places size d t n l = record {
  small = lt_of_lt_of_le l (count_small size);
  head = omega (arith, head_length_lem size d t, row_in size n l);
  macroblock = each (macroblocks_down size) (macroblocks_across size) 4 (macroblocks_length_lem size d t) l;
  levels = each (macroblocks_down size) (macroblocks_across size) 384 (levels_length_lem size d t) l;
}
  where
    each : (h w k : ℕ) {m : ℕ} → m ≡ h * (w * k) → n < h * w → n * k + k ≤ m
    each h w k e l = omega (arith, rows_less k l)
