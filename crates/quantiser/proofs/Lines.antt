-- Blocks line by line: small numbers, and lines that are done. Assumes nothing.
use mathlib.Core.Path.{◌≡◌, refl, sym, subst, ◌∙◌}
use mathlib.Core.Logic.{⊎_elim}
use mathlib.Core.List.{List, [], ◌∷◌}
use Prim.Native.Nat.{ℕ, zero, suc, ◌+◌, ◌*◌, ◌^◌, ◌≤◌, ◌<◌, zero-le}
use native.Mathlib.Nat.{le_of_suc-le-suc, not-suc-le-zero, lt_of_lt_of_le}
use native.Mathlib.Omega.{arith}
use lib.Dec.{lit≤}
use lib.IntN.{ℤ, pos}
use lib.ListN.{length, get_or, set, length-set, get_or-eq_default}
use lib.Seq.{get_or-set_same, get_or-set_other}
use lib.Signed.{mag}
use mir.Syntax.{w16, w32}
use mir.Val.{to_z, of_z}
use mir.Facts.{to_z-of_z}
use borrow.Author.Rules.{sfits_of}
use borrow.Author.Count.{below_more}
use Rattle.laws.specs.Integer.{Low}
use Rattle.laws.specs.Rows.{Starts}
use Rattle.laws.proofs.Rows.{lt-or-ge}
use Rattle.laws.specs.Block.{Is, Shape, put}
use Rattle.laws.proofs.Block.{Filled, filled_none, filled_more, filled_same, filled_all}
use Rattle.quantiser.specs.Lines.{SmallRow, entry, Line}

pub starts_line : {n : ℕ} {g : ℕ → ℤ} {r : List ℤ} → Starts (pos 0) 8 n g r → 8 ≤ n → Line g r
starts_line h l = record { size = h.size; entries = λ x m. h.first x (lt_of_lt_of_le m l) }

-- what holds at 0 to 7 holds below 8
pub eight : (P : ℕ → Type 0) → P 0 → P 1 → P 2 → P 3 → P 4 → P 5 → P 6 → P 7 → (x : ℕ) → x < 8 → P x
eight P a b c d e f g h zero l = a
eight P a b c d e f g h (suc zero) l = b
eight P a b c d e f g h (suc (suc zero)) l = c
eight P a b c d e f g h (suc (suc (suc zero))) l = d
eight P a b c d e f g h (suc (suc (suc (suc zero)))) l = e
eight P a b c d e f g h (suc (suc (suc (suc (suc zero))))) l = f
eight P a b c d e f g h (suc (suc (suc (suc (suc (suc zero)))))) l = g
eight P a b c d e f g h (suc (suc (suc (suc (suc (suc (suc zero))))))) l = h
eight P a b c d e f g h (suc (suc (suc (suc (suc (suc (suc (suc n)))))))) l = absurd (not-suc-le-zero (down (down (down (down (down (down (down (down l)))))))))
  where
    down : {i j : ℕ} → suc i < suc j → i < j
    down p = le_of_suc-le-suc p

-- a line by its eight numbers, and a block by its eight lines
pub line_of_lem : {g : ℕ → ℤ} {a b c d e f h k : ℤ} → a ≡ g 0 → b ≡ g 1 → c ≡ g 2 → d ≡ g 3 → e ≡ g 4 → f ≡ g 5 → h ≡ g 6 → k ≡ g 7 → Line g (a ∷ b ∷ c ∷ d ∷ e ∷ f ∷ h ∷ k ∷ [])
line_of_lem {g} {a} {b} {c} {d} {e} {f} {h} {k} p q r s t u v w =
    record { size = refl; entries = eight (λ x. entry (a ∷ b ∷ c ∷ d ∷ e ∷ f ∷ h ∷ k ∷ []) x ≡ g x) p q r s t u v w }

pub block_of : {g : ℕ → ℕ → ℤ} {a b c d e f h k : List ℤ} → Line (g 0) a → Line (g 1) b → Line (g 2) c → Line (g 3) d → Line (g 4) e → Line (g 5) f → Line (g 6) h → Line (g 7) k → Is (pos 0) g (a ∷ b ∷ c ∷ d ∷ e ∷ f ∷ h ∷ k ∷ [])
block_of {g} {a} {b} {c} {d} {e} {f} {h} {k} p q r s t u v w =
    record {
      shape = record { rows = refl; cols = λ i l. (each i l).size };
      cells = λ i j l m. (each i l).entries j m;
    }
  where
    each : (i : ℕ) → i < 8 → Line (g i) (get_or (a ∷ b ∷ c ∷ d ∷ e ∷ f ∷ h ∷ k ∷ []) i [])
    each = eight (λ i. Line (g i) (get_or (a ∷ b ∷ c ∷ d ∷ e ∷ f ∷ h ∷ k ∷ []) i [])) p q r s t u v w

-- what a call gives back is read back from its bits
pub back32 : (z : ℤ) → mag z < 2 ^ 31 → to_z w32 (of_z w32 z) ≡ z
back32 z p = to_z-of_z {w = w32} (sfits_of p)

pub back16 : (z : ℤ) → mag z < 2 ^ 15 → to_z w16 (of_z w16 z) ≡ z
back16 z p = to_z-of_z {w = w16} (sfits_of p)

-- the first n lines are what g says
pub record Lines (g : ℕ → ℕ → ℤ) (n : ℕ) (t : List (List ℤ)) : Type 0 where
  pub rows : length t ≡ 8
  pub lines : (i : ℕ) → i < n → Line (g i) (get_or t i [])

module _ (g : ℕ → ℕ → ℤ) where
  pub lines_none : {t : List (List ℤ)} → length t ≡ 8 → Lines g 0 t
  lines_none e = record { rows = e; lines = λ i l. absurd (not-suc-le-zero l) }

  pub lines_more : {n : ℕ} {t : List (List ℤ)} {r : List ℤ} → Lines g n t → n < 8 → Line (g n) r → Lines g (n + 1) (set t n r)
  lines_more {n} {t} {r} h l e =
      record {
        rows = length-set t n r ∙ h.rows;
        lines = below_more (λ i. Line (g i) (get_or (set t n r) i [])) n
            (λ i m. subst (λ (s : List ℤ). Line (g i) s) (sym (get_or-set_other t n i r [] (apart m))) (h.lines i m))
            (subst (λ (s : List ℤ). Line (g n) s) (sym (get_or-set_same t n r [] (omega (arith, h.rows)))) e);
      }
    where
      apart : {i n : ℕ} → i < n → i ≡ n → ⊥
      apart m f = omega arith

  pub lines_all : {n : ℕ} {t : List (List ℤ)} → Lines g n t → 8 ≤ n → Is (pos 0) g t
  lines_all h l =
      record {
        shape = record { rows = h.rows; cols = λ i p. (h.lines i (lt_of_lt_of_le p l)).size };
        cells = λ i j p q. (h.lines i (lt_of_lt_of_le p l)).entries j q;
      }

  pub lines_last : {n : ℕ} {t : List (List ℤ)} {r : List ℤ} → Lines g n t → n ≡ 7 → Line (g 7) r → Is (pos 0) g (set t 7 r)
  lines_last {t = t} h e l = lines_all (lines_more (subst (λ (n : ℕ). Lines g n t) e h) (lit≤ tt) l) (lit≤ tt)

-- a line whose entries are small, read past its end too
pub line_low : {g : ℕ → ℤ} {r : List ℤ} {m : ℕ} → Line g r → ((x : ℕ) → Low m (g x)) → SmallRow m r
line_low {g} {r} {m} h b i = ⊎_elim inside beyond (lt-or-ge i 8)
  where
    inside : i < 8 → Low m (entry r i)
    inside l = subst (λ (z : ℤ). Low m z) (sym (h.entries i l)) (b i)

    far : {n : ℕ} → n ≡ 8 → 8 ≤ i → n ≤ i
    far e l = omega arith

    beyond : 8 ≤ i → Low m (entry r i)
    beyond l = subst (λ (z : ℤ). Low m z) (sym (get_or-eq_default r (pos 0) (far h.size l))) (record { low = zero-le })

-- the first n entries, column by column
abbrev pub Columns : (ℕ → ℕ → ℤ) → ℕ → List (List ℤ) → Type 0
Columns g n t = Filled (pos 0) (λ i j. j * 8 + i) g n t

module _ (g : ℕ → ℕ → ℤ) where
  pub columns_none : {t : List (List ℤ)} → Shape t → Columns g 0 t
  columns_none s = filled_none (pos 0) _ g s

  pub columns_more : {t : List (List ℤ)} (y x : ℕ) (a : ℤ) → Columns g (x * 8 + y) t → y < 8 → x < 8 → a ≡ g y x → Columns g (x * 8 + (y + 1)) (put (pos 0) t y x a)
  columns_more y x a h p q e =
      filled_same (pos 0) _ g (filled_more (pos 0) (λ i j. j * 8 + i) g y x a h p q e (λ i j k l f. (omega arith, omega arith))) (λ i j k l m. omega arith)

  pub columns_next : {t : List (List ℤ)} (y x : ℕ) → Columns g (x * 8 + y) t → 8 ≤ y → Columns g ((x + 1) * 8 + 0) t
  columns_next y x h r = filled_same (pos 0) _ g h (λ i j p q l. omega arith)

  pub columns_all : {t : List (List ℤ)} (x : ℕ) → Columns g (x * 8 + 0) t → 8 ≤ x → Is (pos 0) g t
  columns_all x h r = filled_all (pos 0) _ g h (λ i j p q. omega arith)
