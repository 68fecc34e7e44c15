-- The predictor: in range, of the vectors before alone, and MV1 at a border. Assumes nothing.
use Prim.Native.Nat.{ℕ, zero, suc, ◌+◌, ◌-◌, ◌%◌, ◌≤◌, ◌<◌, min, max}
use mathlib.Core.Path.{◌≡◌, refl, sym, ap, ap₂, ◌∙◌}
use mathlib.Core.Bool.{Bool, true, false}
use mathlib.Core.Logic.{◌⊎◌, inl, inr}
use native.Mathlib.Omega.{arith}
use native.Mathlib.Nat.{le_antisymm, zero-mod, mod-one}
use borrow.Author.Tests.{ltb-true, ltb-false, eqb-false, le-ltb, lt-ltb}
use lib.Dec.{T, ltb, eqb}
use lib.IntN.{ℤ, pos, negsuc}
use lib.Signed.{lt_z}
use Rattle.laws.specs.Choice.{pick, either}
use Rattle.laws.proofs.Choice.{true-false}
use Rattle.laws.proofs.Rows.{lt-or-ge}
use Rattle.layout.specs.Value.{Vector, zero_vector}
use Rattle.quantiser.specs.Cut.{at_least, at_most}
use Rattle.h263_description.specs.Vector.{in_range, Vectors, median, median_vector, left_of, bordered, above_of, right_of, predictor}
use Rattle.h263_description.specs.Landing.{component_of}

-- ---- the median is one of the three: what holds of each of them holds of it
pick_of : {A : Type 0} (P : A → Type 0) (b : Bool) (x y : A) → P x → P y → P (pick b x y)
pick_of P true x y p q = p
pick_of P false x y p q = q

module _ (P : ℤ → Type 0) where
  least_of : (a b : ℤ) → P a → P b → P (at_least a b)
  unfolding at_least
  least_of a b = pick_of P (lt_z b a) a b

  most_of : (a b : ℤ) → P a → P b → P (at_most a b)
  unfolding at_most
  most_of a b = pick_of P (lt_z a b) a b

  pub median_of : (a b c : ℤ) → P a → P b → P c → P (median a b c)
  median_of a b c p q r = least_of (at_most a b) (at_most (at_least a b) c) (most_of a b p q) (most_of (at_least a b) c (least_of a b p q) r)

-- of two that are the same it is that one
neither : (a c : ℤ) → lt_z a c ≡ false → lt_z c a ≡ false → c ≡ a
neither (pos a) (pos c) e f = ap pos (le_antisymm (ltb-false a c e) (ltb-false c a f))
neither (pos a) (negsuc c) e f = absurd (true-false f)
neither (negsuc a) (pos c) e f = absurd (true-false e)
neither (negsuc a) (negsuc c) e f = ap negsuc (le_antisymm (ltb-false a c f) (ltb-false c a e))

pub median_twice : (a c : ℤ) → median a a c ≡ a
unfolding at_least at_most
median_twice a c = (λ i. at_least (same (lt_z a a) i) (at_most (same (lt_z a a) i) c)) ∙ go (lt_z a c) refl
  where
    same : (b : Bool) → pick b a a ≡ a
    same true = refl
    same false = refl

    last : (b : Bool) → lt_z c a ≡ b → lt_z a c ≡ false → pick b a c ≡ a
    last true f e = refl
    last false f e = neither a c e f

    go : (b : Bool) → lt_z a c ≡ b → at_least a (pick b a c) ≡ a
    go true e = same (lt_z a a)
    go false e = last (lt_z c a) refl e

-- ---- and of components kept as 32 more it is the median of what is kept
same_test : (a b c d : ℕ) → (a < b → c < d) → (c < d → a < b) → ltb a b ≡ ltb c d
same_test a b c d f g = go (ltb a b) refl
  where
    go : (t : Bool) → ltb a b ≡ t → t ≡ ltb c d
    go true e = sym (lt-ltb c d (f (ltb-true a b e)))
    go false e = sym (le-ltb c d (other (lt-or-ge c d)))
      where
        other : (c < d) ⊎ (d ≤ c) → d ≤ c
        other (inl l) = let h = g l in absurd (omega (arith, ltb-false a b e))
        other (inr l) = l

component_low : (a : ℕ) → a < 32 → component_of a ≡ negsuc (32 - suc a)
component_low a l = rw (lt-ltb a 32 l)

component_high : (a : ℕ) → 32 ≤ a → component_of a ≡ pos (a - 32)
component_high a l = rw (le-ltb a 32 l)

pub component_less : (a b : ℕ) → lt_z (component_of a) (component_of b) ≡ ltb a b
component_less a b = go (lt-or-ge a 32) (lt-or-ge b 32)
  where
    go : (a < 32) ⊎ (32 ≤ a) → (b < 32) ⊎ (32 ≤ b) → lt_z (component_of a) (component_of b) ≡ ltb a b
    go (inl l) (inl m) = (λ i. lt_z (component_low a l i) (component_low b m i)) ∙ same_test (32 - suc b) (32 - suc a) a b (λ h. omega arith) (λ h. omega arith)
    go (inl l) (inr m) = (λ i. lt_z (component_low a l i) (component_high b m i)) ∙ sym (lt-ltb a b (omega arith))
    go (inr l) (inl m) = (λ i. lt_z (component_high a l i) (component_low b m i)) ∙ sym (le-ltb a b (omega arith))
    go (inr l) (inr m) = (λ i. lt_z (component_high a l i) (component_high b m i)) ∙ same_test (a - 32) (b - 32) a b (λ h. omega arith) (λ h. omega arith)

abbrev pub median_kept : ℕ → ℕ → ℕ → ℕ
median_kept a b c = max (min a b) (min (max a b) c)

least_kept : (a b : ℕ) → at_least (component_of a) (component_of b) ≡ component_of (max a b)
unfolding at_least
least_kept a b = ap (λ (t : Bool). pick t (component_of a) (component_of b)) (component_less b a) ∙ go (ltb b a) refl
  where
    go : (t : Bool) → ltb b a ≡ t → pick t (component_of a) (component_of b) ≡ component_of (max a b)
    go true e = let m : a ≡ max a b = omega (arith, ltb-true b a e) in ap component_of m
    go false e = let m : b ≡ max a b = omega (arith, ltb-false b a e) in ap component_of m

most_kept : (a b : ℕ) → at_most (component_of a) (component_of b) ≡ component_of (min a b)
unfolding at_most
most_kept a b = ap (λ (t : Bool). pick t (component_of a) (component_of b)) (component_less a b) ∙ go (ltb a b) refl
  where
    go : (t : Bool) → ltb a b ≡ t → pick t (component_of a) (component_of b) ≡ component_of (min a b)
    go true e = let m : a ≡ min a b = omega (arith, ltb-true a b e) in ap component_of m
    go false e = let m : b ≡ min a b = omega (arith, ltb-false a b e) in ap component_of m

pub median_kept_lem : (a b c : ℕ) → median (component_of a) (component_of b) (component_of c) ≡ component_of (median_kept a b c)
median_kept_lem a b c =
    ap₂ at_least (most_kept a b) (ap (λ (z : ℤ). at_most z (component_of c)) (least_kept a b) ∙ most_kept (max a b) c) ∙ least_kept (min a b) (min (max a b) c)

-- ---- a vector in range
pub record Ranged (v : Vector) : Type 0 where
  pub horizontally : T (in_range v.horizontal)
  pub vertically : T (in_range v.vertical)

pub zero_ranged : Ranged zero_vector
zero_ranged = record { horizontally = tt; vertically = tt }

-- ---- what holds of zero and of the vectors before macroblock n holds of its candidates, of one picture or between two
module _ (across : ℕ) (l : 1 ≤ across) (headed : Bool) (n : ℕ) (R : Vector → Vector → Type 0) (none : R zero_vector zero_vector) (vs ws : Vectors) (before : (k : ℕ) → k < n → R (vs k) (ws k)) where
  left_like : R (left_of across vs n) (left_of across ws n)
  left_like = go (eqb (n % across) 0) refl
    where
      some : (n : ℕ) → (n % across ≡ 0 → ⊥) → n - 1 < n
      some zero f = absurd (f (zero-mod across))
      some (suc n) f = omega arith

      go : (b : Bool) → eqb (n % across) 0 ≡ b → R (pick b zero_vector (vs (n - 1))) (pick b zero_vector (ws (n - 1)))
      go true e = none
      go false e = before (n - 1) (some n (eqb-false (n % across) 0 e))

  -- where no border is, a row lies above
  row_above : bordered across headed n ≡ false → across ≤ n
  row_above e = go (ltb n across) refl e
    where
      go : (b : Bool) → ltb n across ≡ b → either b headed ≡ false → across ≤ n
      go true f e = absurd (true-false e)
      go false f e = ltb-false n across f

  above_like : R (above_of across headed vs n) (above_of across headed ws n)
  above_like = go (bordered across headed n) refl
    where
      go : (b : Bool) → bordered across headed n ≡ b → R (pick b (left_of across vs n) (vs (n - across))) (pick b (left_of across ws n) (ws (n - across)))
      go true e = left_like
      go false e = let h = row_above e in before (n - across) (omega arith)

  right_like : R (right_of across headed vs n) (right_of across headed ws n)
  right_like = column (eqb (n % across + 1) across) refl
    where
      two : (across : ℕ) → 1 ≤ across → (n % across + 1 ≡ across → ⊥) → 2 ≤ across
      two zero l f = absurd (omega arith)
      two (suc zero) l f = absurd (f (ap (λ (k : ℕ). k + 1) (mod-one n)))
      two (suc (suc k)) l f = omega arith

      row : 2 ≤ across → (b : Bool) → bordered across headed n ≡ b → R (pick b (left_of across vs n) (vs (n - across + 1))) (pick b (left_of across ws n) (ws (n - across + 1)))
      row h true e = left_like
      row h false e = let k = row_above e in before (n - across + 1) (omega arith)

      column : (b : Bool) → eqb (n % across + 1) across ≡ b
          → R (pick b zero_vector (pick (bordered across headed n) (left_of across vs n) (vs (n - across + 1)))) (pick b zero_vector (pick (bordered across headed n) (left_of across ws n) (ws (n - across + 1))))
      column true e = none
      column false e = row (two across l (eqb-false (n % across + 1) across e)) (bordered across headed n) refl

-- ---- the laws
module _ (across : ℕ) (l : 1 ≤ across) (headed : Bool) (n : ℕ) where
  -- of vectors in range it is in range
  pub predictor_ranged : (vectors : Vectors) → ((k : ℕ) → k < n → Ranged (vectors k)) → Ranged (predictor across headed vectors n)
  unfolding predictor
  predictor_ranged vectors before =
      let R : Vector → Vector → Type 0 = λ v w. Ranged v in
      let a = left_like across l headed n R zero_ranged vectors vectors before in
      let b = above_like across l headed n R zero_ranged vectors vectors before in
      let c = right_like across l headed n R zero_ranged vectors vectors before in
      record {
        horizontally = median_of (λ z. T (in_range z)) _ _ _ a.horizontally b.horizontally c.horizontally;
        vertically = median_of (λ z. T (in_range z)) _ _ _ a.vertically b.vertically c.vertically;
      }

  -- it is that of the vectors before alone
  pub predictor_same : (vs ws : Vectors) → ((k : ℕ) → k < n → vs k ≡ ws k) → predictor across headed vs n ≡ predictor across headed ws n
  unfolding predictor
  predictor_same vs ws before =
      let R : Vector → Vector → Type 0 = λ v w. v ≡ w in
      let a = left_like across l headed n R refl vs ws before in
      let b = above_like across l headed n R refl vs ws before in
      let c = right_like across l headed n R refl vs ws before in
      (λ i. median_vector (a i) (b i) (c i))

-- "where the row above is outside the picture, or the group's own header stands": it is MV1
pub predictor-bordered : (across : ℕ) (headed : Bool) (vectors : Vectors) (n : ℕ) → bordered across headed n ≡ true → predictor across headed vectors n ≡ left_of across vectors n
unfolding predictor
predictor-bordered across headed vectors n e =
    let left = left_of across vectors n in
    let above : above_of across headed vectors n ≡ left = ap (λ (b : Bool). pick b left (vectors (n - across))) e in
    ap (λ (v : Vector). median_vector left v (right_of across headed vectors n)) above
    ∙ (λ i. record {
      horizontal = median_twice left.horizontal (right_of across headed vectors n).horizontal i;
      vertical = median_twice left.vertical (right_of across headed vectors n).vertical i;
    })
