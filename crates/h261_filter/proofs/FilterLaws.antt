-- The filter's two passes are its one sum, and its outputs are samples. Assumes nothing.
use mathlib.Core.Path.{◌≡◌, sym, ap, subst, ◌∙◌}
use mathlib.Core.Bool.{Bool, true, false}
use mathlib.Core.List.{List}
use Prim.Native.Nat.{ℕ, ◌+◌, ◌*◌, ◌-◌, ◌/◌, ◌≤◌, ◌<◌, zero-le}
use native.Mathlib.Decide.{ℕ_discrete}
use native.Mathlib.Omega.{arith}
use borrow.Author.Tests.{ne_eqb}
use lib.Dec.{T, eqb, lit≤}
use lib.IntN.{ℤ, pos, ◌+ℤ◌, ◌*ℤ◌, pos-*ℤ-pos}
use Rattle.laws.specs.Choice.{pick, either}
use Rattle.laws.proofs.Choice.{T_true}
use Rattle.quantiser.specs.Sample.{UpTo, Sample, Samples}
use Rattle.quantiser.proofs.SampleLaws.{byte_sample}
use Rattle.laws.specs.Block.{Is}
use Rattle.laws.proofs.Block.{is_each}
use Rattle.laws.specs.Integer.{Low}
use Rattle.laws.proofs.Integer.{low_up, low_mul, low_add}
use Rattle.laws.specs.Floor.{floor_divided}
use Rattle.h261_filter.specs.Filter.{AtEdge, rounded_sixteenth, weighted, filter_at}

-- ---- one way: at the edge, inside, and by what it looks at
pub weighted_edge : (g : ℕ → ℤ) (k : ℕ) → AtEdge k → weighted g k ≡ pos 4 *ℤ g k
unfolding weighted
weighted_edge g k t = ap (λ (b : Bool). pick b (pos 4 *ℤ g k) (g (k - 1) +ℤ pos 2 *ℤ g k +ℤ g (k + 1))) (T_true (either (eqb k 0) (eqb k 7)) t)

pub weighted_inside : (g : ℕ → ℤ) (k : ℕ) → 1 ≤ k → k ≤ 6 → weighted g k ≡ g (k - 1) +ℤ pos 2 *ℤ g k +ℤ g (k + 1)
unfolding weighted
weighted_inside g k p q =
    ap (λ (b : Bool). pick b (pos 4 *ℤ g k) (g (k - 1) +ℤ pos 2 *ℤ g k +ℤ g (k + 1)))
    ((λ i. either (ne_eqb k 0 (more p) i) (ne_eqb k 7 (less q) i)))
  where
    more : {k : ℕ} → 1 ≤ k → k ≡ 0 → ⊥
    more p e = omega arith

    less : {k : ℕ} → k ≤ 6 → k ≡ 7 → ⊥
    less q e = omega arith

-- ---- how large one way makes numbers
pub edge_low : {b : ℤ} {m : ℕ} → Low m b → Low (4 * m) (pos 4 *ℤ b)
edge_low p = low_mul {a = pos 4} {m = 4} (record { low = lit≤ tt }) p

pub inside_low : {a b c : ℤ} {m : ℕ} → Low m a → Low m b → Low m c → Low (4 * m) (a +ℤ pos 2 *ℤ b +ℤ c)
inside_low {m = m} p q r =
    low_up (4 * m) (low_add (low_add p (low_mul {a = pos 2} {m = 2} (record { low = lit≤ tt }) q)) r) (omega arith)

-- the places below 8, by where they stand
by_place : (P : ℕ → Type 0) → ((k : ℕ) → AtEdge k → P k) → ((k : ℕ) → 1 ≤ k → k ≤ 6 → P k) → (k : ℕ) → k < 8 → P k
by_place P e i k l = go (ℕ_discrete k 0) (ℕ_discrete k 7)
  where
    go : Dec (k ≡ 0) → Dec (k ≡ 7) → P k
    go (yes p) d = subst P (sym p) (e 0 tt)
    go (no n) (yes p) = subst P (sym p) (e 7 tt)
    go (no n) (no m) = i k (omega arith) (omega arith)

pub edge_below : (k : ℕ) → AtEdge k → k < 8
edge_below k t = go (ℕ_discrete k 0) (ℕ_discrete k 7)
  where
    go : Dec (k ≡ 0) → Dec (k ≡ 7) → k < 8
    go (yes p) d = omega arith
    go (no n) (yes p) = omega arith
    go (no n) (no m) = absurd (subst (λ (b : Bool). T b) (λ i. either (ne_eqb k 0 n i) (ne_eqb k 7 m i)) t)

pub weighted_same : (g h : ℕ → ℤ) → ((k : ℕ) → k < 8 → g k ≡ h k) → (k : ℕ) → k < 8 → weighted g k ≡ weighted h k
weighted_same g h e =
    by_place (λ k. weighted g k ≡ weighted h k)
    (λ k t. weighted_edge g k t ∙ ap (λ (z : ℤ). pos 4 *ℤ z) (e k (edge_below k t)) ∙ sym (weighted_edge h k t))
    (λ k p q.
    weighted_inside g k p q ∙ (λ i. e (k - 1) (omega arith) i +ℤ pos 2 *ℤ e k (omega arith) i +ℤ e (k + 1) (omega arith) i)
    ∙ sym (weighted_inside h k p q))

-- ---- samples stay samples
pub weighted_up_to : (g : ℕ → ℤ) {m : ℕ} → ((k : ℕ) → UpTo m (g k)) → (k : ℕ) → UpTo (4 * m) (weighted g k)
unfolding weighted
weighted_up_to g {m} u k = go (either (eqb k 0) (eqb k 7))
  where
    four : {n : ℕ} → n ≤ m → 4 * n ≤ 4 * m
    four l = omega arith

    three : {a b c : ℕ} → a ≤ m → b ≤ m → c ≤ m → a + 2 * b + c ≤ 4 * m
    three p q r = omega arith

    go : (b : Bool) → UpTo (4 * m) (pick b (pos 4 *ℤ g k) (g (k - 1) +ℤ pos 2 *ℤ g k +ℤ g (k + 1)))
    go true =
        record { value = 4 * (u k).value; is = ap (λ (z : ℤ). pos 4 *ℤ z) (u k).is ∙ pos-*ℤ-pos 4 (u k).value; most = four (u k).most }
    go false =
        record {
          value = (u (k - 1)).value + 2 * (u k).value + (u (k + 1)).value;
          is = (λ i. (u (k - 1)).is i +ℤ pos 2 *ℤ (u k).is i +ℤ (u (k + 1)).is i);
          most = three (u (k - 1)).most (u k).most (u (k + 1)).most;
        }

pub filter_sample : (block : List (List ℤ)) → Samples block → (row column : ℕ) → Sample (filter_at block row column)
unfolding filter_at rounded_sixteenth floor_divided
filter_sample block s row column = rounded (weighted_up_to _ (λ x. weighted_up_to _ (λ y. s y x) row) column)
  where
    less : {n : ℕ} → n ≤ 4080 → (n + 8) / 16 ≤ 255
    less l = omega arith

    rounded : {z : ℤ} → UpTo 4080 z → Sample (floor_divided (z +ℤ pos 8) 16)
    rounded u = record { value = (u.value + 8) / 16; is = ap (λ (z : ℤ). floor_divided (z +ℤ pos 8) 16) u.is; most = less u.most }

pub filter_samples : (block : List (List ℤ)) {result : List (List ℤ)} → Samples block → Is (pos 0) (filter_at block) result → Samples result
filter_samples block s h = is_each Sample h (byte_sample 0 zero-le) (filter_sample block s)
