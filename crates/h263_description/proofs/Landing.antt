-- Of a word's two numbers one lands, and it is the sum modulo 64: tried at every predictor and every word. Assumes nothing.
use Prim.Native.Nat.{ℕ, suc, ◌+◌, ◌-◌, ◌%◌, ◌≤◌, ◌<◌}
use mathlib.Core.Path.{◌≡◌, refl, sym, ap, subst, ◌∙◌}
use mathlib.Core.Bool.{Bool, true, false}
use native.Mathlib.Omega.{arith}
use borrow.Author.Tests.{ltb-false, ne_eqb}
use lib.Dec.{T, ltb, eqb, eqb→eq}
use lib.IntN.{ℤ, pos, negsuc, neg_ℤ, nat_abs, ◌+ℤ◌, ◌-ℤ◌}
use Rattle.laws.specs.Choice.{pick, both, either, alike, opposite}
use Rattle.laws.proofs.Choice.{both_left, both_right, either_right, opposite_no, T_true, true-T, pick_yes, pick_no}
use Rattle.laws.specs.Table.{all_b, eq_z}
use Rattle.laws.proofs.Table.{all_at, eq_z_yes}
use Rattle.laws.proofs.Integer.{sub_below, sub_above}
use Rattle.layout.specs.Flat.{byte_of, number_of}
use Rattle.h263_description.specs.Vector.{in_range}
use Rattle.h263_description.specs.Landing.{component_of, residue_of, away_of, wrapped_sum, wrapped_difference, EachLands, OneLands}

-- ---- every predictor, and every word, at once
abbrev lands : ℕ → ℕ → Bool
lands p m =
    let sum = component_of p +ℤ component_of m in
    let away = component_of p +ℤ away_of m in
    let landed = component_of (wrapped_sum p m) in
    both (pick (in_range sum) (eq_z sum landed) (both (in_range away) (eq_z away landed)))
    (either (eqb m 32) (opposite (alike (in_range sum) (in_range away))))

tried : T (all_b 64 (λ p. all_b 64 (lands p)))
unfolding wrapped_sum
tried = tt

at : (p m : ℕ) → p < 64 → m < 64 → T (lands p m)
at p m l h = all_at 64 (lands p) (all_at 64 (λ p. all_b 64 (lands p)) tried p l) m h

-- ---- components and residues
pub residue_low : (z : ℤ) → T (in_range z) → residue_of z < 64
residue_low (pos n) t = let l = ltb-false 31 n (opposite_no (ltb 31 n) t) in omega arith
residue_low (negsuc n) t =
    let l = ltb-false 31 n (opposite_no (ltb 31 n) (both_left (opposite (ltb 31 n)) true t)) in
    let e = ap nat_abs (sub_below 32 (suc n) (omega arith)) in
    omega arith

pub component_residue : (z : ℤ) → T (in_range z) → component_of (residue_of z) ≡ z
component_residue (pos n) t =
    let same : n + 32 - 32 ≡ n = omega arith in
    sub_below (n + 32) 32 (omega arith) ∙ ap pos same
component_residue (negsuc n) t =
    let l = ltb-false 31 n (opposite_no (ltb 31 n) (both_left (opposite (ltb 31 n)) true t)) in
    let same : 32 - (32 - suc n) ≡ suc n = omega arith in
    ap (λ (z : ℤ). component_of (nat_abs z)) (sub_below 32 (suc n) (omega arith)) ∙ sub_above (32 - suc n) 32 (omega arith) ∙ ap (λ (k : ℕ). neg_ℤ (pos k)) same

-- every residue, at once: its component is in range, and its byte is the residue's own number, moved
abbrev kept : ℕ → Bool
kept k = both (in_range (component_of k)) (both (eqb (residue_of (component_of k)) k) (eqb (byte_of (component_of k)) ((k + 224) % 256)))

kept-tried : T (all_b 64 kept)
kept-tried = tt

module _ (k : ℕ) (l : k < 64) where
  pub component_range : T (in_range (component_of k))
  component_range = both_left (in_range (component_of k)) _ (all_at 64 kept kept-tried k l)

  others : T (both (eqb (residue_of (component_of k)) k) (eqb (byte_of (component_of k)) ((k + 224) % 256)))
  others = both_right (in_range (component_of k)) _ (all_at 64 kept kept-tried k l)

  pub residue_component : residue_of (component_of k) ≡ k
  residue_component = eqb→eq (residue_of (component_of k)) k (both_left (eqb (residue_of (component_of k)) k) _ others)

  pub component_byte : byte_of (component_of k) ≡ (k + 224) % 256
  component_byte = eqb→eq (byte_of (component_of k)) ((k + 224) % 256) (both_right (eqb (residue_of (component_of k)) k) _ others)

-- and every byte
abbrev moved : ℕ → Bool
moved b = either (opposite (in_range (number_of b))) (eqb (residue_of (number_of b)) ((b + 32) % 256))

moved_tried : T (all_b 256 moved)
moved_tried = tt

pub residue_byte : (b : ℕ) → b ≤ 255 → T (in_range (number_of b)) → residue_of (number_of b) ≡ (b + 32) % 256
residue_byte b l t =
    eqb→eq (residue_of (number_of b)) ((b + 32) % 256)
    (either_right (opposite (in_range (number_of b))) _ (ap opposite (T_true (in_range (number_of b)) t)) (all_at 256 moved moved_tried b (omega arith)))

-- ---- modulo 64: "v is the one number in -32..31 with v ≡ p + d, d the one with d ≡ v - p"
pub sum_low : (p d : ℕ) → wrapped_sum p d < 64
unfolding wrapped_sum
sum_low p d = omega arith

pub difference_low : (v p : ℕ) → wrapped_difference v p < 64
unfolding wrapped_difference
difference_low v p = omega arith

pub sum_difference : (p v : ℕ) → p < 64 → v < 64 → wrapped_sum p (wrapped_difference v p) ≡ v
unfolding wrapped_sum wrapped_difference
sum_difference p v l h = omega arith

pub difference_sum : (p d : ℕ) → p < 64 → d < 64 → wrapped_difference (wrapped_sum p d) p ≡ d
unfolding wrapped_sum wrapped_difference
difference_sum p d l h = omega arith

-- the difference that a writer looks up, from the components themselves
abbrev looked : ℕ → ℕ → Bool
looked v p = eqb (nat_abs (component_of v -ℤ component_of p +ℤ pos 96) % 64) (wrapped_difference v p)

looked-tried : T (all_b 64 (λ v. all_b 64 (looked v)))
unfolding wrapped_difference
looked-tried = tt

pub difference_of : (component predictor : ℤ) → T (in_range component) → T (in_range predictor)
    → nat_abs (component -ℤ predictor +ℤ pos 96) % 64 ≡ wrapped_difference (residue_of component) (residue_of predictor)
difference_of component predictor t u =
    let v = residue_of component in
    let p = residue_of predictor in
    let same = all_at 64 (looked v) (all_at 64 (λ v. all_b 64 (looked v)) looked-tried v (residue_low component t)) p (residue_low predictor u) in
    sym (λ i. nat_abs (component_residue component t i -ℤ component_residue predictor u i +ℤ pos 96) % 64)
    ∙ eqb→eq (nat_abs (component_of v -ℤ component_of p +ℤ pos 96) % 64) (wrapped_difference v p) same

-- ---- the theorems
pub each_lands : EachLands
each_lands z m t h =
    let p = residue_of z in
    let l : p < 64 = residue_low z t in
    let whole = at p m l h in
    let same = component_residue z t in
    record {
      printed = subst (λ (z : ℤ). in_range (z +ℤ component_of m) ≡ true → z +ℤ component_of m ≡ component_of (wrapped_sum p m)) same (printed p (first p whole));
      other =
          subst (λ (z : ℤ). in_range (z +ℤ component_of m) ≡ false → (in_range (z +ℤ away_of m) ≡ true) × (z +ℤ away_of m ≡ component_of (wrapped_sum p m))) same (other p (first p whole));
    }
  where
    Lands : ℕ → Type 0
    Lands p =
        T (pick (in_range (component_of p +ℤ component_of m)) (eq_z (component_of p +ℤ component_of m) (component_of (wrapped_sum p m)))
        (both (in_range (component_of p +ℤ away_of m)) (eq_z (component_of p +ℤ away_of m) (component_of (wrapped_sum p m)))))

    first : (p : ℕ) → T (lands p m) → Lands p
    first p t =
        both_left
        (pick (in_range (component_of p +ℤ component_of m)) (eq_z (component_of p +ℤ component_of m) (component_of (wrapped_sum p m)))
        (both (in_range (component_of p +ℤ away_of m)) (eq_z (component_of p +ℤ away_of m) (component_of (wrapped_sum p m))))) _ t

    printed : (p : ℕ) → Lands p → in_range (component_of p +ℤ component_of m) ≡ true → component_of p +ℤ component_of m ≡ component_of (wrapped_sum p m)
    printed p t e = eq_z_yes _ _ (pick_yes _ _ e t)

    other : (p : ℕ) → Lands p → in_range (component_of p +ℤ component_of m) ≡ false
        → (in_range (component_of p +ℤ away_of m) ≡ true) × (component_of p +ℤ away_of m ≡ component_of (wrapped_sum p m))
    other p t e =
        let a = in_range (component_of p +ℤ away_of m) in
        let b = eq_z (component_of p +ℤ away_of m) (component_of (wrapped_sum p m)) in
        let u : T (both a b) = pick_no (eq_z (component_of p +ℤ component_of m) (component_of (wrapped_sum p m))) (both a b) e t in
        (T_true a (both_left a b u), eq_z_yes _ _ (both_right a b u))

pub one_lands : OneLands
one_lands z m t h =
    let p = residue_of z in
    let l : p < 64 = residue_low z t in
    let same = component_residue z t in (
      some (in_range (z +ℤ component_of m)) refl,
      λ n. subst (λ (z : ℤ). T (opposite (alike (in_range (z +ℤ component_of m)) (in_range (z +ℤ away_of m))))) same
          (either_right (eqb m 32) _ (ne_eqb m 32 n) (both_right (pick (in_range (component_of p +ℤ component_of m)) (eq_z (component_of p +ℤ component_of m) (component_of (wrapped_sum p m)))
          (both (in_range (component_of p +ℤ away_of m)) (eq_z (component_of p +ℤ away_of m) (component_of (wrapped_sum p m))))) _ (at p m l h))),
    )
  where
    some : (b : Bool) → in_range (z +ℤ component_of m) ≡ b → T (either b (in_range (z +ℤ away_of m)))
    some true e = tt
    some false e = true-T (in_range (z +ℤ away_of m)) ((each_lands z m t h).other e).0
