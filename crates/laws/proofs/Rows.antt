-- Rows of a slice with a stride: none meets another, and what is put there is all that changes. Assumes nothing.
use mathlib.Core.Path.{◌≡◌, refl, sym, ap, subst, ◌∙◌}
use mathlib.Core.Logic.{◌≢◌, ◌⊎◌, inl, inr, ⊎_elim}
use mathlib.Core.List.{List}
use Prim.Native.Nat.{ℕ, zero, suc, ◌+◌, ◌*◌, ◌-◌, ◌≤◌, ◌<◌, zero-le, suc-le-suc}
use native.Mathlib.Nat.{suc-mul, mul-le-mul_right, eq-or-lt_of_le, le_antisymm, not-suc-le-zero}
use native.Mathlib.Omega.{arith}
use lib.ListN.{length, get_or, set, length-set}
use lib.Seq.{get_or-set_same, get_or-set_other}
use Rattle.laws.specs.Rows.{Starts, Row, Put}

pub lt-or-ge : (a b : ℕ) → (a < b) ⊎ (b ≤ a)
lt-or-ge a zero = inr zero-le
lt-or-ge zero (suc b) = inl (suc-le-suc zero-le)
lt-or-ge (suc a) (suc b) = ⊎_elim (λ p. inl (suc-le-suc p)) (λ q. inr (suc-le-suc q)) (lt-or-ge a b)

-- ---- rows of one width w
-- a row that is less stands wholly before
pub rows_less : (w : ℕ) {y z : ℕ} → y < z → y * w + w ≤ z * w
rows_less w {y} {z} l = subst (λ (n : ℕ). n ≤ z * w) (suc-mul y w) (mul-le-mul_right w l)

pub rows_same : (w y x z v : ℕ) → x < w → v < w → y * w + x ≡ z * w + v → (y ≡ z) × (x ≡ v)
rows_same w y x z v p q e = go (lt-or-ge y z) (lt-or-ge z y)
  where
    go : (y < z) ⊎ (z ≤ y) → (z < y) ⊎ (y ≤ z) → (y ≡ z) × (x ≡ v)
    go (inl l) _ = absurd (omega (arith, rows_less w l))
    go (inr l) (inl m) = absurd (omega (arith, rows_less w m))
    go (inr l) (inr m) =
        let s : y ≡ z = omega arith in
        (s, omega (arith, ap (λ (n : ℕ). n * w) s))

-- a place of h rows of w elements
pub rows_in : (h w y x : ℕ) → y < h → x < w → y * w + x < h * w
rows_in h w y x p q = omega (arith, rows_less w p)

pub row_none : {at : ℕ} {g : ℕ → ℕ} {s : List ℕ} → Row at 0 g s s
row_none = record { size = refl; inside = λ j l. absurd (not-suc-le-zero l); outside = λ k o. refl }

-- one element more
pub row_more : {at w : ℕ} {g : ℕ → ℕ} {s t : List ℕ} {a : ℕ} → Row at w g s t → at + w < length t → a ≡ g w → Row at (w + 1) g s (set t (at + w) a)
row_more {at} {w} {g} {s} {t} {a} h l e =
    record { size = length-set t (at + w) a ∙ h.size; inside = λ j q. go j (eq-or-lt_of_le (at_most j q)); outside = λ k o. get_or-set_other t (at + w) k a 0 (apart k o) ∙ h.outside k (less k o) }
  where
    at_most : (j : ℕ) → j < w + 1 → j ≤ w
    at_most j q = omega arith

    apart : (k : ℕ) → (k < at) ⊎ (at + (w + 1) ≤ k) → k ≢ at + w
    apart k (inl o) f = omega arith
    apart k (inr o) f = omega arith

    less : (k : ℕ) → (k < at) ⊎ (at + (w + 1) ≤ k) → (k < at) ⊎ (at + w ≤ k)
    less k (inl o) = inl o
    less k (inr o) = inr (omega arith)

    other : (j : ℕ) → j < w → at + j ≢ at + w
    other j q f = omega arith

    go : (j : ℕ) → (j ≡ w) ⊎ (j < w) → get_or (set t (at + w) a) (at + j) 0 ≡ g j
    go j (inl f) = ap (λ (n : ℕ). get_or (set t (at + w) a) (at + n) 0) f ∙ get_or-set_same t (at + w) a 0 l ∙ e ∙ ap g (sym f)
    go j (inr q) = get_or-set_other t (at + w) (at + j) a 0 (other j q) ∙ h.inside j q

pub put_none : {w start stride : ℕ} {g : ℕ → ℕ → ℕ} {s : List ℕ} → Put 0 w start stride g s s
put_none = record { size = refl; inside = λ i j l. absurd (not-suc-le-zero l); outside = λ k o. refl }

-- one row more
pub put_more : {h w start stride : ℕ} {g : ℕ → ℕ → ℕ} {s t u : List ℕ} → w ≤ stride → Put h w start stride g s t → Row (start + h * stride) w (g h) t u
    → Put (h + 1) w start stride g s u
put_more {h} {w} {start} {stride} {g} {s} {t} {u} f p r =
    record { size = r.size ∙ p.size; inside = λ i j l q. go i j q (eq-or-lt_of_le (at_most i l)); outside = λ k o. r.outside k (side k o (lt-or-ge k (start + h * stride)) (lt-or-ge k (start + h * stride + w))) ∙ p.outside k (λ i j l q. o i j (more i l) q) }
  where
    at_most : (i : ℕ) → i < h + 1 → i ≤ h
    at_most i l = omega arith

    more : (i : ℕ) → i < h → i < h + 1
    more i l = omega arith

    earlier : (i j : ℕ) → j < w → i < h → start + i * stride + j < start + h * stride
    earlier i j q l = omega (arith, rows_less stride l)

    go : (i j : ℕ) → j < w → (i ≡ h) ⊎ (i < h) → get_or u (start + i * stride + j) 0 ≡ g i j
    go i j q (inl e) =
        ap (λ (n : ℕ). get_or u (start + n * stride + j) 0) e ∙ r.inside j q
        ∙ ap (λ (n : ℕ). g n j) (sym e)
    go i j q (inr l) = r.outside (start + i * stride + j) (inl (earlier i j q l)) ∙ p.inside i j l q

    last : h < h + 1
    last = omega arith

    side : (k : ℕ) → ((i j : ℕ) → i < h + 1 → j < w → k ≢ start + i * stride + j) → (k < start + h * stride) ⊎ (start + h * stride ≤ k)
        → (k < start + h * stride + w) ⊎ (start + h * stride + w ≤ k) → (k < start + h * stride) ⊎ (start + h * stride + w ≤ k)
    side k o (inl a) b = inl a
    side k o (inr a) (inr b) = inr b
    side k o (inr a) (inl b) = absurd (o h (k - (start + h * stride)) last (omega arith) (omega arith))

pub row_end : {at w v : ℕ} {g : ℕ → ℕ} {s t : List ℕ} → Row at w g s t → w ≤ v → v ≤ w → Row at v g s t
row_end {at} {w} {v} {g} {s} {t} r l m = subst (λ (n : ℕ). Row at n g s t) (le_antisymm l m) r

pub put_end : {h k w start stride : ℕ} {g : ℕ → ℕ → ℕ} {s t : List ℕ} → Put h w start stride g s t → h ≤ k → k ≤ h → Put k w start stride g s t
put_end {h} {k} {w} {start} {stride} {g} {s} {t} r l m = subst (λ (n : ℕ). Put n w start stride g s t) (le_antisymm l m) r

-- the same row, by another function that agrees
pub row_as : {at w : ℕ} {g e : ℕ → ℕ} {s t : List ℕ} → ((j : ℕ) → j < w → g j ≡ e j) → Row at w g s t → Row at w e s t
row_as a r = record { size = r.size; inside = λ j l. r.inside j l ∙ a j l; outside = r.outside }

pub put_as : {h w start stride : ℕ} {g e : ℕ → ℕ → ℕ} {s t : List ℕ} → ((i j : ℕ) → i < h → j < w → g i j ≡ e i j) → Put h w start stride g s t → Put h w start stride e s t
put_as a r = record { size = r.size; inside = λ i j l m. r.inside i j l m ∙ a i j l m; outside = r.outside }

module _ {A : Type 0} {d : A} {m : ℕ} {g : ℕ → A} {r : List A} where
  pub begins_none : length r ≡ m → Starts d m 0 g r
  begins_none e = record { size = e; first = λ j l. absurd (not-suc-le-zero l) }

  -- one element more
  pub begins_more : {n : ℕ} {a : A} → Starts d m n g r → n < m → a ≡ g n → Starts d m (n + 1) g (set r n a)
  begins_more {n} {a} h l e = record { size = length-set r n a ∙ h.size; first = λ j q. go j (eq-or-lt_of_le (at_most j q)) }
    where
      at_most : (j : ℕ) → j < n + 1 → j ≤ n
      at_most j q = omega arith

      apart : (j : ℕ) → j < n → j ≢ n
      apart j q f = omega arith

      inside : n < length r
      inside = omega (arith, h.size)

      go : (j : ℕ) → (j ≡ n) ⊎ (j < n) → get_or (set r n a) j d ≡ g j
      go j (inl f) = ap (λ (k : ℕ). get_or (set r n a) k d) f ∙ get_or-set_same r n a d inside ∙ e ∙ ap g (sym f)
      go j (inr q) = get_or-set_other r n j a d (apart j q) ∙ h.first j q

  pub begins_end : {n : ℕ} → Starts d m n g r → m ≤ n → Starts d m m g r
  begins_end h l = record { size = h.size; first = λ j q. h.first j (omega arith) }
