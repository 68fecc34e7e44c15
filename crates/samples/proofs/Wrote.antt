-- Blocks that are written one after another make a macroblock. Assumes nothing.
use mathlib.Core.Path.{◌≡◌, refl, sym, ap, subst, ◌∙◌}
use mathlib.Core.Logic.{◌⊎◌, inl, inr}
use mathlib.Core.List.{List}
use Prim.Native.Nat.{ℕ, zero, suc, ◌+◌, ◌*◌, ◌/◌, ◌%◌, ◌≤◌, ◌<◌}
use native.Mathlib.Nat.{eq-or-lt_of_le}
use native.Mathlib.Omega.{arith}
use lib.ListN.{get_or}
use Rattle.laws.specs.Rows.{Put}
use Rattle.size.specs.declared.Size.{Size}
use Rattle.size.specs.Place.{macroblocks_across, macroblocks_down, blocks_across, blocks_down, index, own, block_of, cell_of, On}
use Rattle.size.proofs.Grid.{Same, index_same}
use Rattle.size.proofs.Blocks.{block_same, Placed}
use Rattle.samples.specs.Content.{Values}
use Rattle.samples.specs.Wrote.{Part, Wrote}
use Rattle.samples.proofs.Corner.{Corner, corner_cell, corner_half}

pub wrote_as : {f : Size} {p y x : ℕ} {g e : ℕ → ℕ → ℕ} {s t : List ℕ} → ((i j : ℕ) → i < 8 → j < 8 → g i j ≡ e i j) → Wrote f p y x g s t → Wrote f p y x e s t
wrote_as a h = record { size = h.size; inside = λ i j l m. h.inside i j l m ∙ a i j l m; outside = h.outside }

row_less : (n : ℕ) {z i : ℕ} → z < n → i < 8 → z * 8 + i < n * 8
row_less n l h = omega arith

-- eight rows of eight that are put where the block lies
pub wrote : {f : Size} {p y x at w : ℕ} {g : ℕ → ℕ → ℕ} {s t : List ℕ} → Corner f p (y * 8) (x * 8) at w → On f p y x → Put 8 8 at w g s t → Wrote f p y x g s t
wrote {f} {p} {y} {x} {at} {w} {g} {s} {t} a o h = record {
  size = h.size;
  inside = λ i j l m. ap (λ (n : ℕ). get_or t n 0) (sym (corner_cell a i j)) ∙ h.inside i j l m;
  outside = λ q z v u n i j l m. h.outside (index f q (z * 8 + i) (v * 8 + j)) (λ k e b c r. clash q z v n i j k e l m b c
      (index_same f q (z * 8 + i) (v * 8 + j) p (y * 8 + k) (x * 8 + e) (row_less (blocks_down f q) u.row l) (row_less (blocks_across f q) u.column m) (row_less (blocks_down f p) o.row b) (row_less (blocks_across f p) o.column c) (r ∙ corner_cell a k e)));
}
  where
    eight : (a b c d : ℕ) → a * 8 + b ≡ c * 8 + d → b < 8 → d < 8 → a ≡ c
    eight a b c d e p q = omega arith

    clash : (q z v : ℕ) → (q ≡ p → z ≡ y → v ≡ x → ⊥) → (i j k e : ℕ) → i < 8 → j < 8 → k < 8 → e < 8 → Same q (z * 8 + i) (v * 8 + j) p (y * 8 + k) (x * 8 + e) → ⊥
    clash q z v n i j k e l m a c r = n r.plane (eight z i y k r.row l a) (eight v j x e r.col m c)

pub part_none : {f : Size} {r c : ℕ} {g : Values} {s : List ℕ} → Part f r c 0 g s s
part_none = record { size = refl; inside = λ p y x o a b l. absurd (none l); outside = λ p y x o n i j l m. refl }
  where
    none : {n : ℕ} → n < 0 → ⊥
    none h = omega arith

pub part_as : {f : Size} {r c b : ℕ} {g e : Values} {s t : List ℕ} → ((p y x : ℕ) → own p y ≡ r → own p x ≡ c → (i j : ℕ) → i < 8 → j < 8 → g p y x i j ≡ e p y x i j) → Part f r c b g s t → Part f r c b e s t
part_as a h = record { size = h.size; inside = λ p y x o m n l i j k q. h.inside p y x o m n l i j k q ∙ a p y x m n i j k q; outside = h.outside }

-- one block more
pub part_more : {f : Size} {r c b p y x : ℕ} {g : Values} {s t u : List ℕ} → Placed f r c b p y x → Part f r c b g s t → Wrote f p y x (g p y x) t u → Part f r c (b + 1) g s u
part_more {f} {r} {c} {b} {p} {y} {x} {g} {s} {t} {u} a h w = record {
  size = w.size ∙ h.size;
  inside = λ q z v o d e l. within q z v o d e (eq-or-lt_of_le (at_most l));
  outside = λ q z v o d i j m n. w.outside q z v o (λ e1 e2 e3. d ((λ k. own (e1 k) (e2 k)) ∙ a.row) ((λ k. own (e1 k) (e3 k)) ∙ a.column)) i j m n ∙ h.outside q z v o d i j m n;
}
  where
    at_most : {a : ℕ} → a < b + 1 → a ≤ b
    at_most l = omega arith

    no : (k : ℕ) → k ≡ b → k < b → ⊥
    no k e l = omega arith

    before : (q z v : ℕ) → block_of q z v < b → q ≡ p → z ≡ y → v ≡ x → ⊥
    before q z v l e1 e2 e3 = no (block_of q z v) ((λ k. block_of (e1 k) (e2 k) (e3 k)) ∙ a.number) l

    now : (q z v i j : ℕ) → i < 8 → j < 8 → Same q z v p y x → cell_of f u q z v i j ≡ g q z v i j
    now q z v i j m n e =
        (λ k. cell_of f u (e.plane k) (e.row k) (e.col k) i j) ∙ w.inside i j m n ∙ sym (λ k. g (e.plane k) (e.row k) (e.col k) i j)

    within : (q z v : ℕ) → On f q z v → own q z ≡ r → own q v ≡ c → (block_of q z v ≡ b) ⊎ (block_of q z v < b) → (i j : ℕ) → i < 8 → j < 8 → cell_of f u q z v i j ≡ g q z v i j
    within q z v o d e (inl k) i j m n = now q z v i j m n (block_same q z v p y x (k ∙ sym a.number) (d ∙ sym a.row) (e ∙ sym a.column))
    within q z v o d e (inr k) i j m n = w.outside q z v o (before q z v k) i j m n ∙ h.inside q z v o d e k i j m n

pub part_end : {f : Size} {r c b k : ℕ} {g : Values} {s t : List ℕ} → Part f r c b g s t → b ≤ k → k ≤ b → Part f r c k g s t
part_end {f} {r} {c} {b} {k} {g} {s} {t} h l m = subst (λ (n : ℕ). Part f r c n g s t) (same l m) h
  where
    same : {a d : ℕ} → a ≤ d → d ≤ a → a ≡ d
    same l m = omega arith

-- the four blocks of luminance at once: sixteen rows of sixteen that are put where they lie
pub part_four : {f : Size} {r c at w : ℕ} {g : ℕ → ℕ → ℕ} {e : Values} {s t : List ℕ} → Corner f 0 (r * 16) (c * 16) at w → r < macroblocks_down f → c < macroblocks_across f
    → ((y x i j : ℕ) → y / 2 ≡ r → x / 2 ≡ c → i < 8 → j < 8 → g (y % 2 * 8 + i) (x % 2 * 8 + j) ≡ e 0 y x i j)
    → Put 16 16 at w g s t → Part f r c 4 e s t
part_four {f} {r} {c} {at} {w} {g} {e} {s} {t} o hr hc a h = record {
  size = h.size;
  inside = inside;
  outside = λ q z v b n i j l m. h.outside (index f q (z * 8 + i) (v * 8 + j)) (λ k d lk ld u. clash q z v i j k d l m lk ld n
      (index_same f q (z * 8 + i) (v * 8 + j) 0 (r * 16 + k) (c * 16 + d) (row_less (blocks_down f q) b.row l) (row_less (blocks_across f q) b.column m) (sixteen (macroblocks_down f) hr lk) (sixteen (macroblocks_across f) hc ld) (u ∙ corner_cell o k d)));
}
  where
    sixteen : (n : ℕ) {z i : ℕ} → z < n → i < 16 → z * 16 + i < n * 2 * 8
    sixteen n l h = omega arith

    less : (y i : ℕ) → i < 8 → y % 2 * 8 + i < 16
    less y i l = omega arith

    inside : (p y x : ℕ) → On f p y x → own p y ≡ r → own p x ≡ c → block_of p y x < 4 → (i j : ℕ) → i < 8 → j < 8 → cell_of f t p y x i j ≡ e p y x i j
    inside zero y x b er ec l i j m n =
        sym (ap (λ (k : ℕ). get_or t k 0) (corner_half o y x er ec i j))
        ∙ h.inside (y % 2 * 8 + i) (x % 2 * 8 + j) (less y i m) (less x j n) ∙ a y x i j er ec m n
    inside (suc p) y x b er ec l i j m n = absurd (omega arith)

    half : (z i r k : ℕ) → z * 8 + i ≡ r * 16 + k → i < 8 → k < 16 → z / 2 ≡ r
    half z i r k e l m = omega arith

    clash : (q z v i j k d : ℕ) → i < 8 → j < 8 → k < 16 → d < 16 → (own q z ≡ r → own q v ≡ c → ⊥) → Same q (z * 8 + i) (v * 8 + j) 0 (r * 16 + k) (c * 16 + d) → ⊥
    clash q z v i j k d l m lk ld n u =
        n (ap (λ (p : ℕ). own p z) u.plane ∙ half z i r k u.row l lk) (ap (λ (p : ℕ). own p v) u.plane ∙ half v j c d u.col m ld)
