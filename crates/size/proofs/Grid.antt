-- Laws of places: no two samples stand at one index, and every index of a store is a sample's. Assumes nothing.
use mathlib.Core.Path.{◌≡◌, refl, sym, ap, subst, ◌∙◌}
use mathlib.Core.Logic.{◌⊎◌, inl, inr, ⊎_elim}
use Prim.Native.Nat.{ℕ, zero, suc, ◌+◌, ◌*◌, ◌/◌, ◌%◌, ◌-◌, ◌≤◌, ◌<◌, zero-le}
use native.Mathlib.Nat.{le_trans, lt_of_lt_of_le, eq-or-lt_of_le, le_of_eq, le_of_suc-le-suc, le_of_lt, le-add_right, div-add-mod', div-lt_iff_lt-mul, mod-lt}
use native.Mathlib.Omega.{arith}
use Rattle.laws.proofs.Rows.{lt-or-ge, rows_same, rows_in}
use Rattle.size.specs.declared.Size.{Size}
use Rattle.size.specs.declared.Size.TheVariants.{SubQcif, Qcif, Cif}
use Rattle.size.specs.Size.{width, height, store_length}
use Rattle.size.specs.Place.{wide, high, base, index}

-- ---- the two ways to say a size
pub width_is : (f : Size) → width f ≡ wide f 0
width_is SubQcif = refl
width_is Qcif = refl
width_is Cif = refl

pub height_is : (f : Size) → height f ≡ high f 0
height_is SubQcif = refl
height_is Qcif = refl
height_is Cif = refl

-- the three planes fill a store
pub store_is : (f : Size) → base f 3 ≡ store_length f
store_is SubQcif = refl
store_is Qcif = refl
store_is Cif = refl

-- ---- places
bases_more : (f : Size) (p q : ℕ) → p ≤ q → base f p ≤ base f q
bases_more f p zero l = subst (λ (n : ℕ). base f n ≤ 0) (sym (none l)) zero-le
  where
    none : {n : ℕ} → n ≤ 0 → n ≡ 0
    none h = omega arith
bases_more f p (suc q) l =
    ⊎_elim (λ e. le_of_eq (ap (base f) e)) (λ m. le_trans (bases_more f p q (le_of_suc-le-suc m)) (le-add_right (base f q) (high f q * wide f q)))
    (eq-or-lt_of_le l)

-- a sample stands before what follows its plane
pub index_in : (f : Size) (p y x : ℕ) → y < high f p → x < wide f p → index f p y x < base f (suc p)
index_in f p y x hy hx = omega (arith, rows_in (high f p) (wide f p) y x hy hx)

pub index_size : (f : Size) (p y x : ℕ) → p < 3 → y < high f p → x < wide f p → index f p y x < store_length f
index_size f p y x hp hy hx = lt_of_lt_of_le (index_in f p y x hy hx) (le_trans (bases_more f (suc p) 3 hp) (le_of_eq (store_is f)))

-- no two samples stand at one index
pub record Same (p y x q z v : ℕ) : Type 0 where
  pub plane : p ≡ q
  pub row : y ≡ z
  pub col : x ≡ v

before : (f : Size) {p y x q : ℕ} (z v : ℕ) → y < high f p → x < wide f p → p < q → index f p y x < index f q z v
before f {p} {y} {x} {q} z v hy hx l =
    lt_of_lt_of_le (index_in f p y x hy hx) (le_trans (bases_more f (suc p) q l) (le-add_right (base f q) (z * wide f q + v)))

pub index_same : (f : Size) (p y x q z v : ℕ) → y < high f p → x < wide f p → z < high f q → v < wide f q
    → index f p y x ≡ index f q z v → Same p y x q z v
index_same f p y x q z v hy hx hz hv e = go (lt-or-ge p q) (lt-or-ge q p)
  where
    at : p ≡ q → Same p y x q z v
    at s =
        let t : index f q y x ≡ index f q z v = subst (λ (n : ℕ). index f n y x ≡ index f q z v) s e in
        let u = rows_same (wide f q) y x z v (subst (λ (n : ℕ). x < wide f n) s hx) hv (omega arith) in
        record { plane = s; row = u.0; col = u.1 }

    less : {a b : ℕ} → a ≡ b → a < b → ⊥
    less h l = omega arith

    go : (p < q) ⊎ (q ≤ p) → (q < p) ⊎ (p ≤ q) → Same p y x q z v
    go (inl l) _ = absurd (less e (before f {p = p} {y = y} {x = x} {q = q} z v hy hx l))
    go (inr l) (inl m) = absurd (less (sym e) (before f {p = q} {y = z} {x = v} {q = p} y x hz hv m))
    go (inr l) (inr m) = at (omega arith)

-- a plane that isn't Y's
pub other_plane : (p : ℕ) → (p ≡ 0 → ⊥) → suc (p - 1) ≡ p
other_plane zero n = absurd (n refl)
other_plane (suc p) n = omega arith

-- every index of the store is that of a sample
pub record Spot (f : Size) (k : ℕ) : Type 0 where
  pub p : ℕ
  pub y : ℕ
  pub x : ℕ
  pub plane : p < 3
  pub row : y < high f p
  pub col : x < wide f p
  pub is : k ≡ index f p y x

spot_in : (f : Size) (p k n : ℕ) → p < 3 → n ≡ wide f p → 0 < n → base f p ≤ k → k < base f p + high f p * n → Spot f k
spot_in f p k n hp en pos l m =
    record {
      p = p;
      y = (k - base f p) / n;
      x = (k - base f p) % n;
      plane = hp;
      row = (div-lt_iff_lt-mul {k = n} {x = k - base f p} {y = high f p} pos).1 (omega arith);
      col = subst (λ (w : ℕ). (k - base f p) % n < w) en (mod-lt (k - base f p) pos);
      is = sub-add l ∙ ap (λ (d : ℕ). base f p + d) (sym (div-add-mod' (k - base f p) n) ∙ (λ i. (k - base f p) / n * en i + (k - base f p) % n));
    }
  where
    sub-add : {a : ℕ} → a ≤ k → k ≡ a + (k - a)
    sub-add h = omega arith

wide-some : (f : Size) (p : ℕ) → 0 < wide f p
wide-some SubQcif zero = omega arith
wide-some Qcif zero = omega arith
wide-some SubQcif (suc p) = omega arith
wide-some Qcif (suc p) = omega arith
wide-some Cif zero = omega arith
wide-some Cif (suc p) = omega arith

pub spot : (f : Size) (k : ℕ) → k < store_length f → Spot f k
spot f k l = go (lt-or-ge k (base f 1)) (lt-or-ge k (base f 2))
  where
    go : (k < base f 1) ⊎ (base f 1 ≤ k) → (k < base f 2) ⊎ (base f 2 ≤ k) → Spot f k
    go (inl a) b = spot_in f 0 k (wide f 0) (omega arith) refl (wide-some f 0) zero-le a
    go (inr a) (inl b) = spot_in f 1 k (wide f 1) (omega arith) refl (wide-some f 1) a b
    go (inr a) (inr b) = spot_in f 2 k (wide f 2) (omega arith) refl (wide-some f 2) b (lt_of_lt_of_le l (le_of_eq (sym (store_is f))))

-- ---- how a plane's row and its start are counted: by the width, and by sixths of a store
pub stride_luminance : (f : Size) {p : ℕ} → p ≡ 0 → width f ≡ wide f p
stride_luminance f e = width_is f ∙ ap (wide f) (sym e)

pub stride_chroma : (f : Size) (p : ℕ) → (p ≡ 0 → ⊥) → width f / 2 ≡ wide f p
stride_chroma f zero n = absurd (n refl)
stride_chroma SubQcif (suc p) n = refl
stride_chroma Qcif (suc p) n = refl
stride_chroma Cif (suc p) n = refl

pub start_sixths : (f : Size) (p : ℕ) → p < 3 → (p ≡ 0 → ⊥) → store_length f / 6 * (p + 3) ≡ base f p
start_sixths f zero l n = absurd (n refl)
start_sixths SubQcif (suc zero) l n = refl
start_sixths Qcif (suc zero) l n = refl
start_sixths Cif (suc zero) l n = refl
start_sixths SubQcif (suc (suc zero)) l n = refl
start_sixths Qcif (suc (suc zero)) l n = refl
start_sixths Cif (suc (suc zero)) l n = refl
start_sixths f (suc (suc (suc p))) l n = absurd (omega arith)

pub start_most : (f : Size) (p : ℕ) → p < 3 → base f p ≤ store_length f
start_most f p l = le_trans (bases_more f p 3 (le_of_lt l)) (le_of_eq (store_is f))
