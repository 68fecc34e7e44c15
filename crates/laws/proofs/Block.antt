-- Blocks of eight rows of eight: what a change leaves, and when two are the same. Assumes nothing.
use mathlib.Core.Path.{◌≡◌, sym, ap, subst, ◌∙◌}
use mathlib.Core.Logic.{◌≢◌, ◌⊎◌, inl, inr}
use mathlib.Core.List.{List, []}
use Prim.Native.Nat.{ℕ, ◌+◌, ◌*◌, ◌≤◌, ◌<◌}
use native.Mathlib.Nat.{eq-or-lt_of_le, not-suc-le-zero}
use native.Mathlib.Decide.{ℕ_discrete}
use native.Mathlib.Omega.{arith}
use lib.ListN.{length, get_or, set, replicate, length-set, length-replicate, get_or-replicate, get_or-eq_default}
use lib.Seq.{get_or-set_same, get_or-set_other}
use Rattle.laws.proofs.Rows.{lt-or-ge}
use Rattle.laws.specs.Block.{Is, put, cell, Shape}

pub shape_fill : {A : Type 0} (a : A) → Shape (replicate 8 (replicate 8 a))
shape_fill a = record {
  rows = length-replicate 8 (replicate 8 a);
  cols = λ i l. ap length (get_or-replicate 8 i (replicate 8 a) [] l) ∙ length-replicate 8 a;
}

-- a block of one number
pub fill_is : {A : Type 0} {d : A} {g : ℕ → ℕ → A} (a : A) → ((i j : ℕ) → a ≡ g i j) → Is d g (replicate 8 (replicate 8 a))
fill_is {A} {d} a e =
    record {
      shape = shape_fill a;
      cells = λ i j p q. ap (λ (r : List A). get_or r j d) (get_or-replicate 8 i (replicate 8 a) [] p) ∙ get_or-replicate 8 j a d q ∙ e i j;
    }

module _ {A : Type 0} (d : A) {t : List (List A)} (s : Shape t) {v x : ℕ} (p : v < 8) (q : x < 8) (a : A) where
  in_rows : v < length t
  in_rows = omega (arith, s.rows)

  in_cols : x < length (get_or t v [])
  in_cols = omega (arith, s.cols v p)

  row_same : get_or (put d t v x a) v [] ≡ set (get_or t v []) x a
  row_same = get_or-set_same t v _ [] in_rows

  pub put_shape : Shape (put d t v x a)
  put_shape = record { rows = length-set t v _ ∙ s.rows; cols = λ i l. go i l (ℕ_discrete i v) }
    where
      go : (i : ℕ) → i < 8 → Dec (i ≡ v) → length (get_or (put d t v x a) i []) ≡ 8
      go i l (yes e) =
          ap (λ (k : ℕ). length (get_or (put d t v x a) k [])) e ∙ ap length row_same ∙ length-set (get_or t v []) x a ∙ s.cols v p
      go i l (no n) = ap length (get_or-set_other t v i _ [] n) ∙ s.cols i l

  pub cell_same : cell d (put d t v x a) v x ≡ a
  cell_same = ap (λ (r : List A). get_or r x d) row_same ∙ get_or-set_same (get_or t v []) x a d in_cols

  pub cell_other : (i j : ℕ) → (i ≡ v → j ≢ x) → cell d (put d t v x a) i j ≡ cell d t i j
  cell_other i j n = go (ℕ_discrete i v)
    where
      go : Dec (i ≡ v) → cell d (put d t v x a) i j ≡ cell d t i j
      go (yes e) =
          ap (λ (k : ℕ). cell d (put d t v x a) k j) e ∙ ap (λ (r : List A). get_or r j d) row_same
          ∙ get_or-set_other (get_or t v []) x j a d (n e) ∙ ap (λ (k : ℕ). cell d t k j) (sym e)
      go (no m) = ap (λ (r : List A). get_or r j d) (get_or-set_other t v i _ [] m)

-- the entries whose number in an order is below n are what g says
pub record Filled {A : Type 0} (d : A) (order : ℕ → ℕ → ℕ) (g : ℕ → ℕ → A) (n : ℕ) (t : List (List A)) : Type 0 where
  pub shape : Shape t
  pub done : (i j : ℕ) → i < 8 → j < 8 → order i j < n → cell d t i j ≡ g i j

module _ {A : Type 0} (d : A) (order : ℕ → ℕ → ℕ) (g : ℕ → ℕ → A) where
  pub filled_none : {t : List (List A)} → Shape t → Filled d order g 0 t
  filled_none s = record { shape = s; done = λ i j p q l. absurd (not-suc-le-zero l) }

  -- a store of the next entry, which alone has its number
  pub filled_more : {t : List (List A)} (v x : ℕ) (a : A) → Filled d order g (order v x) t → v < 8 → x < 8 → a ≡ g v x → ((i j : ℕ) → i < 8 → j < 8 → order i j ≡ order v x → (i ≡ v) × (j ≡ x)) → Filled d order g (order v x + 1) (put d t v x a)
  filled_more {t} v x a h p q e once =
      record {
        shape = put_shape d h.shape p q a;
        done = λ i j k l m. go i j k l (eq-or-lt_of_le (at_most (order i j) (order v x) m));
      }
    where
      at_most : (m n : ℕ) → m < n + 1 → m ≤ n
      at_most m n l = omega arith

      apart : (i j : ℕ) → order i j < order v x → i ≡ v → j ≢ x
      apart i j l f r = let same : order i j ≡ order v x = (λ u. order (f u) (r u)) in omega arith

      go : (i j : ℕ) → i < 8 → j < 8 → (order i j ≡ order v x) ⊎ (order i j < order v x) → cell d (put d t v x a) i j ≡ g i j
      go i j k l (inl f) =
          let s = once i j k l f in
          (λ u. cell d (put d t v x a) (s.0 u) (s.1 u)) ∙ cell_same d h.shape p q a ∙ e ∙ (λ u. g (sym s.0 u) (sym s.1 u))
      go i j k l (inr m) = cell_other d h.shape p q a i j (apart i j m) ∙ h.done i j k l m

  -- the same entries, counted otherwise
  pub filled_same : {t : List (List A)} {m n : ℕ} → Filled d order g n t → ((i j : ℕ) → i < 8 → j < 8 → order i j < m → order i j < n) → Filled d order g m t
  filled_same h l = record { shape = h.shape; done = λ i j p q k. h.done i j p q (l i j p q k) }

  pub filled_all : {t : List (List A)} {n : ℕ} → Filled d order g n t → ((i j : ℕ) → i < 8 → j < 8 → order i j < n) → Is d g t
  filled_all h l = record { shape = h.shape; cells = λ i j p q. h.done i j p q (l i j p q) }

-- the first n entries in the order of reading
abbrev pub Done : {A : Type 0} → A → (ℕ → ℕ → A) → ℕ → List (List A) → Type 0
Done d g n t = Filled d (λ i j. i * 8 + j) g n t

module _ {A : Type 0} (d : A) (g : ℕ → ℕ → A) where
  pub done_none : {t : List (List A)} → Shape t → Done d g 0 t
  done_none s = filled_none d _ g s

  pub done_more : {t : List (List A)} (v x : ℕ) (a : A) → Done d g (v * 8 + x) t → v < 8 → x < 8 → a ≡ g v x → Done d g (v * 8 + (x + 1)) (put d t v x a)
  done_more v x a h p q e =
      filled_same d _ g (filled_more d (λ i j. i * 8 + j) g v x a h p q e (λ i j k l f. (omega arith, omega arith))) (λ i j k l m. omega arith)

  -- the next row, once the row is full
  pub done_row : {t : List (List A)} (v x : ℕ) → Done d g (v * 8 + x) t → 8 ≤ x → Done d g ((v + 1) * 8 + 0) t
  done_row v x h r = filled_same d _ g h (λ i j p q l. omega arith)

  pub done_all : {t : List (List A)} (v : ℕ) → Done d g (v * 8 + 0) t → 8 ≤ v → Is d g t
  done_all v h r = filled_all d _ g h (λ i j p q. omega arith)

-- what holds of each entry of g, and of d, holds of each of t's entries, and of what is read past its ends
module _ {A : Type 0} {d : A} {g : ℕ → ℕ → A} {t : List (List A)} (P : A → Type 0) (h : Is d g t) (out : P d) (all : (i j : ℕ) → P (g i j)) where
  past : (i j : ℕ) → 8 ≤ i → cell d t i j ≡ d
  past i j l = ap (λ (r : List A). get_or r j d) (get_or-eq_default t [] (far (length t) h.shape.rows))
    where
      far : (n : ℕ) → n ≡ 8 → n ≤ i
      far n e = omega arith

  beside : (i j : ℕ) → i < 8 → 8 ≤ j → cell d t i j ≡ d
  beside i j p l = get_or-eq_default (get_or t i []) d (far (length (get_or t i [])) (h.shape.cols i p))
    where
      far : (n : ℕ) → n ≡ 8 → n ≤ j
      far n e = omega arith

  pub is_each : (i j : ℕ) → P (cell d t i j)
  is_each i j = go (lt-or-ge i 8) (lt-or-ge j 8)
    where
      go : (i < 8) ⊎ (8 ≤ i) → (j < 8) ⊎ (8 ≤ j) → P (cell d t i j)
      go (inl p) (inl q) = subst P (sym (h.cells i j p q)) (all i j)
      go (inl p) (inr q) = subst P (sym (beside i j p q)) out
      go (inr p) q = subst P (sym (past i j p)) out
