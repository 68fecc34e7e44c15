-- The predictor of what is kept is the predictor, kept. Assumes nothing.
use Prim.Native.Nat.{ℕ, ◌+◌, ◌-◌, ◌%◌, ◌≤◌, ◌<◌, max, min}
use mathlib.Core.Path.{◌≡◌, refl, sym, ap, ◌∙◌}
use mathlib.Core.Bool.{Bool, true, false}
use mathlib.Core.List.{List}
use native.Mathlib.Omega.{arith}
use native.Mathlib.Nat.{zero-mod, mod-lt}
use borrow.Author.Tests.{eqb-false, eq-eqb, ne_eqb, lt-ltb, le-ltb}
use lib.Dec.{T, ltb, eqb}
use lib.IntN.{ℤ}
use Rattle.laws.specs.Choice.{pick, either}
use Rattle.layout.specs.Value.{Vector, zero_vector}
use Rattle.h263_description.specs.declared.predicted.Kept.{Kept}
use Rattle.h263_description.specs.Vector.{Vectors, in_range, median, median_vector, left_of, bordered, above_of, right_of, predictor}
use Rattle.h263_description.specs.Landing.{residue_of}
use Rattle.h263_description.specs.Kept.{kept_vector, median_kept, vectors_in, BytesNear, PredictorAsked}
use Rattle.h263_description.proofs.Landing.{residue_low, component_residue, residue_component}
use Rattle.h263_description.proofs.Predictor.{Ranged, zero_ranged, median_kept_lem, predictor-bordered}

-- ---- the median
median_low : (a b c : ℕ) → a < 64 → b < 64 → c < 64 → max (min a b) (min (max a b) c) < 64
median_low a b c l m n = omega arith

median_residue : (x y z : ℤ) → T (in_range x) → T (in_range y) → T (in_range z)
    → residue_of (median x y z) ≡ max (min (residue_of x) (residue_of y)) (min (max (residue_of x) (residue_of y)) (residue_of z))
median_residue x y z p q r =
    let a = residue_of x in
    let b = residue_of y in
    let c = residue_of z in
    ap residue_of ((λ i. median (sym (component_residue x p) i) (sym (component_residue y q) i) (sym (component_residue z r) i)) ∙ median_kept_lem a b c)
    ∙ residue_component (max (min a b) (min (max a b) c)) (median_low a b c (residue_low x p) (residue_low y q) (residue_low z r))

pub kept_median : (u v w : Vector) → Ranged u → Ranged v → Ranged w → median_kept (kept_vector u) (kept_vector v) (kept_vector w) ≡ kept_vector (median_vector u v w)
kept_median u v w p q r = λ i. record {
  horizontal = sym (median_residue u.horizontal v.horizontal w.horizontal p.horizontally q.horizontally r.horizontally) i;
  vertical = sym (median_residue u.vertical v.vertical w.vertical p.vertically q.vertically r.vertically) i;
}

-- ---- the candidates
pub kept_zero : {k : Kept} → k.horizontal ≡ 32 → k.vertical ≡ 32 → k ≡ kept_vector zero_vector
kept_zero a b = λ i. record { horizontal = a i; vertical = b i }

near_ranged : {macroblocks : List ℕ} {k : ℕ} → BytesNear macroblocks k → Ranged (vectors_in macroblocks k)
near_ranged h = record { horizontally = h.horizontally; vertically = h.vertically }

module _ {macroblocks : List ℕ} {across n column : ℕ} (a : PredictorAsked macroblocks across n column) where
  abbrev vectors : Vectors
  vectors = vectors_in macroblocks

  some : (n % across ≡ 0 → ⊥) → 1 ≤ n
  some f = let h : n ≡ 0 → ⊥ = λ z. f (ap (λ (k : ℕ). k % across) z ∙ zero-mod across) in omega arith

  pub left_asked : (column ≡ 0 → ⊥) → (1 ≤ n) × BytesNear macroblocks (n - 1)
  left_asked f = let l = some (λ e. f (a.columned ∙ e)) in (l, a.before (n - 1) (omega arith))

  pub left_none : column ≡ 0 → zero_vector ≡ left_of across vectors n
  left_none e = sym (ap (λ (b : Bool). pick b zero_vector (vectors (n - 1))) (eq-eqb (n % across) 0 (sym a.columned ∙ e)))

  pub left_some : (column ≡ 0 → ⊥) → vectors (n - 1) ≡ left_of across vectors n
  left_some f = sym (ap (λ (b : Bool). pick b zero_vector (vectors (n - 1))) (ne_eqb (n % across) 0 (λ e. f (a.columned ∙ e))))

  left_ranged : Ranged (left_of across vectors n)
  left_ranged = go (eqb (n % across) 0) refl
    where
      go : (b : Bool) → eqb (n % across) 0 ≡ b → Ranged (pick b zero_vector (vectors (n - 1)))
      go true e = zero_ranged
      go false e = let l = some (eqb-false (n % across) 0 e) in near_ranged (a.before (n - 1) (omega arith))

  module _ (headed : Bool) where
    pub at_header : headed ≡ true → left_of across vectors n ≡ predictor across headed vectors n
    at_header e = sym (predictor-bordered across headed vectors n (second (ltb n across)))
      where
        second : (b : Bool) → either b headed ≡ true
        second true = refl
        second false = e

    pub at_top : n < across → left_of across vectors n ≡ predictor across headed vectors n
    at_top l = sym (predictor-bordered across headed vectors n (ap (λ (b : Bool). either b headed) (lt-ltb n across l)))

    -- below a row that counts
    module _ (unheaded : headed ≡ false) (below : across ≤ n) where
      open_above : bordered across headed n ≡ false
      open_above = λ i. either (le-ltb n across below i) (unheaded i)

      pub above_asked : BytesNear macroblocks (n - across)
      above_asked = a.before (n - across) (omega (arith, a.wide))

      above_is : vectors (n - across) ≡ above_of across headed vectors n
      above_is = sym (ap (λ (b : Bool). pick b (left_of across vectors n) (vectors (n - across))) open_above)

      module _ {l u w : Kept} (le : l ≡ kept_vector (left_of across vectors n)) (ue : u ≡ kept_vector (vectors (n - across))) where
        joined : (v : Vector) → Ranged v → v ≡ right_of across headed vectors n → w ≡ kept_vector v → median_kept l u w ≡ kept_vector (predictor across headed vectors n)
        unfolding predictor
        joined v r e we =
            (λ i. median_kept (le i) (ue i) (we i))
            ∙ kept_median (left_of across vectors n) (vectors (n - across)) v left_ranged (near_ranged above_asked) r
            ∙ (λ i. kept_vector (median_vector (left_of across vectors n) (above_is i) (e i)))

        pub at_last : column + 1 ≡ across → w ≡ kept_vector zero_vector → median_kept l u w ≡ kept_vector (predictor across headed vectors n)
        at_last e we =
            let last : n % across + 1 ≡ across = ap (λ (k : ℕ). k + 1) (sym a.columned) ∙ e in
            joined zero_vector zero_ranged
            (sym (ap (λ (b : Bool). pick b zero_vector (pick (bordered across headed n) (left_of across vectors n) (vectors (n - across + 1)))) (eq-eqb (n % across + 1) across last))) we

        pub at_middle : (column + 1 ≡ across → ⊥) → BytesNear macroblocks (n - across + 1) → w ≡ kept_vector (vectors (n - across + 1)) → median_kept l u w ≡ kept_vector (predictor across headed vectors n)
        at_middle f near we =
            let middle : n % across + 1 ≡ across → ⊥ = λ e. f (ap (λ (k : ℕ). k + 1) a.columned ∙ e) in
            joined (vectors (n - across + 1)) (near_ranged near)
            (sym (λ i. pick (ne_eqb (n % across + 1) across middle i) zero_vector (pick (open_above i) (left_of across vectors n) (vectors (n - across + 1))))) we

      pub right_asked : (column + 1 ≡ across → ⊥) → BytesNear macroblocks (n - across + 1)
      right_asked f = a.before (n - across + 1) (omega (arith, f, a.columned, mod-lt n a.wide))
