-- The rendered store by its places: it has its length and each place its sample, and so has no other list; a store whose every macroblock had its turn is that one. Assumes nothing.
use mathlib.Core.Path.{◌≡◌, refl, sym, ap, subst, ◌∙◌}
use mathlib.Core.Logic.{⊎_elim}
use mathlib.Core.List.{List, ◌++◌}
use Prim.Native.Nat.{ℕ, zero, suc, ◌+◌, ◌*◌, ◌/◌, ◌%◌, ◌≤◌, ◌<◌}
use native.Mathlib.Nat.{div-add-mod', eq-or-lt_of_le, lt_of_lt_of_le}
use native.Mathlib.Omega.{arith}
use lib.ListN.{length, get_or, length-append, get_or-append}
use lib.Seq.{get_or-append-add, ext_get_or}
use Rattle.laws.proofs.Rows.{rows_in}
use Rattle.laws.specs.Tabulate.{rows}
use Rattle.laws.proofs.Tabulate.{rows-length, rows_at}
use Rattle.size.specs.declared.Size.{Size}
use Rattle.size.specs.Size.{store_length}
use Rattle.size.specs.Place.{macroblocks_across, macroblocks_down, wide, high, base, index, own, cell_of, On}
use Rattle.size.proofs.Grid.{store_is, Spot, spot}
use Rattle.size.proofs.Blocks.{on_at, own_across, own_down, block_six}
use Rattle.samples.specs.Content.{Values, Contents, content_values, picture_values, sample_at, rendered_store}
use Rattle.samples.specs.Wrote.{Macroblock}
use Rattle.samples.proofs.Turns.{content_picture}

module _ (f : Size) (m : Contents) (s : List ℕ) where
  -- the rows of plane p
  plane : ℕ → List ℕ
  plane p = rows (high f p) (wide f p) (sample_at f m s p)

  plane-length : (p : ℕ) → length (plane p) ≡ high f p * wide f p
  unfolding plane
  plane-length p = rows-length 0 (high f p) (wide f p) (sample_at f m s p)

  plane_at : (p y x : ℕ) → y < high f p → x < wide f p → get_or (plane p) (y * wide f p + x) 0 ≡ sample_at f m s p y x
  unfolding plane
  plane_at p y x l k = rows_at 0 (high f p) (wide f p) (sample_at f m s p) y x l k

  planes : rendered_store f m s ≡ plane 0 ++ (plane 1 ++ plane 2)
  unfolding rendered_store plane
  planes = refl

  pub rendered-length : length (rendered_store f m s) ≡ store_length f
  rendered-length =
      ap length planes
      ∙ three (base f 3) (high f 0 * wide f 0) (high f 1 * wide f 1) (high f 2 * wide f 2) refl (length-append (plane 0) (plane 1 ++ plane 2)) (length-append (plane 1) (plane 2)) (plane-length 0) (plane-length 1) (plane-length 2)
      ∙ store_is f
    where
      three : (n a b c : ℕ) → n ≡ 0 + a + b + c → length (plane 0 ++ (plane 1 ++ plane 2)) ≡ length (plane 0) + length (plane 1 ++ plane 2) → length (plane 1 ++ plane 2) ≡ length (plane 1) + length (plane 2)
          → length (plane 0) ≡ a → length (plane 1) ≡ b → length (plane 2) ≡ c → length (plane 0 ++ (plane 1 ++ plane 2)) ≡ n
      three n a b c e p q u v w = omega arith

  pub rendered_at : (p y x : ℕ) → p < 3 → y < high f p → x < wide f p → get_or (rendered_store f m s) (index f p y x) 0 ≡ sample_at f m s p y x
  rendered_at zero y x hp hy hx =
      (λ i. get_or (planes i) (first i) 0)
      ∙ get_or-append (plane 0) (plane 1 ++ plane 2) 0 (y * wide f 0 + x) (lt_of_lt_of_le (rows_in (high f 0) (wide f 0) y x hy hx) (omega (arith, plane-length 0)))
      ∙ plane_at 0 y x hy hx
    where
      first : index f 0 y x ≡ y * wide f 0 + x
      first = omega arith
  rendered_at (suc zero) y x hp hy hx =
      (λ i. get_or (planes i) (second i) 0) ∙ get_or-append-add (plane 0) (plane 1 ++ plane 2) (y * wide f 1 + x) 0
      ∙ get_or-append (plane 1) (plane 2) 0 (y * wide f 1 + x) (lt_of_lt_of_le (rows_in (high f 1) (wide f 1) y x hy hx) (omega (arith, plane-length 1)))
      ∙ plane_at 1 y x hy hx
    where
      second : index f 1 y x ≡ length (plane 0) + (y * wide f 1 + x)
      second = omega (arith, plane-length 0)
  rendered_at (suc (suc zero)) y x hp hy hx =
      (λ i. get_or (planes i) (third i) 0) ∙ get_or-append-add (plane 0) (plane 1 ++ plane 2) (length (plane 1) + (y * wide f 2 + x)) 0
      ∙ get_or-append-add (plane 1) (plane 2) (y * wide f 2 + x) 0 ∙ plane_at 2 y x hy hx
    where
      third : index f 2 y x ≡ length (plane 0) + (length (plane 1) + (y * wide f 2 + x))
      third = omega (arith, plane-length 0, plane-length 1)
  rendered_at (suc (suc (suc p))) y x hp hy hx = absurd (omega arith)

  -- a list with the right length and each place its sample is the rendered store
  pub is_rendered : (t : List ℕ) → length t ≡ store_length f → ((p y x : ℕ) → p < 3 → y < high f p → x < wide f p → get_or t (index f p y x) 0 ≡ sample_at f m s p y x) → t ≡ rendered_store f m s
  is_rendered t e h = ext_get_or 0 t (rendered_store f m s) (e ∙ sym rendered-length) (λ k l. at k (spot f k (subst (λ (n : ℕ). k < n) e l)))
    where
      at : (k : ℕ) → Spot f k → get_or t k 0 ≡ get_or (rendered_store f m s) k 0
      at k o =
          ap (λ (n : ℕ). get_or t n 0) o.is ∙ h o.p o.y o.x o.plane o.row o.col
          ∙ sym (rendered_at o.p o.y o.x o.plane o.row o.col) ∙ ap (λ (n : ℕ). get_or (rendered_store f m s) n 0) (sym o.is)

-- by blocks: each one's values
pub is_drawn : (f : Size) (m : Contents) (s t : List ℕ) → length t ≡ store_length f
    → ((p y x : ℕ) → On f p y x → (i j : ℕ) → i < 8 → j < 8 → cell_of f t p y x i j ≡ picture_values f m s p y x i j) → t ≡ rendered_store f m s
is_drawn f m s t e h =
    is_rendered f m s t e (λ p y x hp hy hx. (λ i. get_or t (index f p (sym (div-add-mod' y 8) i) (sym (div-add-mod' x 8) i)) 0)
    ∙ h p (y / 8) (x / 8) (on_at f p y x hp hy hx) (y % 8) (x % 8) (omega arith) (omega arith))

-- ---- macroblocks one after another, in an order in which each has its number
pub record Order (f : Size) (count : ℕ) (number : ℕ → ℕ → ℕ) (row column : ℕ → ℕ) : Type 0 where
  pub less : (r c : ℕ) → r < macroblocks_down f → c < macroblocks_across f → number r c < count
  pub row_of : (r c : ℕ) → c < macroblocks_across f → row (number r c) ≡ r
  pub column_of : (r c : ℕ) → c < macroblocks_across f → column (number r c) ≡ c
  pub back : (n : ℕ) → number (row n) (column n) ≡ n

-- the macroblocks whose numbers are below n
pub record Drawn (f : Size) (number : ℕ → ℕ → ℕ) (n : ℕ) (g : Values) (t : List ℕ) : Type 0 where
  pub size : length t ≡ store_length f
  pub inside : (p y x : ℕ) → On f p y x → number (own p y) (own p x) < n → (i j : ℕ) → i < 8 → j < 8 → cell_of f t p y x i j ≡ g p y x i j

pub drawn_none : {f : Size} {number : ℕ → ℕ → ℕ} {g : Values} {s : List ℕ} → length s ≡ store_length f → Drawn f number 0 g s
drawn_none e = record { size = e; inside = λ p y x o l. absurd (none l) }
  where
    none : {n : ℕ} → n < 0 → ⊥
    none h = omega arith

-- one macroblock more
drawn_more : {f : Size} {count n : ℕ} {number : ℕ → ℕ → ℕ} {row column : ℕ → ℕ} {g : Values} {s t : List ℕ} → Order f count number row column
    → Drawn f number n g s → Macroblock f (row n) (column n) g s t → Drawn f number (n + 1) g t
drawn_more {f} {n = n} {number = number} {row = row} {column = column} order h m = record {
  size = m.size ∙ h.size;
  inside = λ p y x o l i j a b. ⊎_elim
      (λ e. m.inside p y x o (sym (order.row_of (own p y) (own p x) (own_across f p x o.column)) ∙ ap row e) (sym (order.column_of (own p y) (own p x) (own_across f p x o.column)) ∙ ap column e) (block_six p y x o.plane) i j a b)
      (λ k. m.outside p y x o (λ e1 e2. less (number (own p y) (own p x)) k ((λ i. number (e1 i) (e2 i)) ∙ order.back n)) i j a b ∙ h.inside p y x o k i j a b)
      (eq-or-lt_of_le (at_most l));
}
  where
    at_most : {a : ℕ} → a < n + 1 → a ≤ n
    at_most l = omega arith

    less : (a : ℕ) → a < n → a ≡ n → ⊥
    less a l e = omega arith

-- the turn of the n-th drew its content
pub drawn_content : {f : Size} {count n : ℕ} {number : ℕ → ℕ → ℕ} {row column : ℕ → ℕ} {t u : List ℕ} (m : Contents) (s : List ℕ) → Order f count number row column
    → Drawn f number n (picture_values f m s) t → Macroblock f (row n) (column n) (content_values f s (m (row n) (column n))) t u → Drawn f number (n + 1) (picture_values f m s) u
drawn_content m s order h k = drawn_more order h (content_picture s m k)

-- what is drawn once each had its turn
pub drawn_all : {f : Size} {count n : ℕ} {number : ℕ → ℕ → ℕ} {row column : ℕ → ℕ} {t : List ℕ} (m : Contents) (s : List ℕ) → Order f count number row column → count ≤ n
    → Drawn f number n (picture_values f m s) t → t ≡ rendered_store f m s
drawn_all {f} {t = t} m s order l h =
    is_drawn f m s t h.size (λ p y x o. h.inside p y x o (lt_of_lt_of_le (order.less (own p y) (own p x) (own_down f p y o.row) (own_across f p x o.column)) l))
