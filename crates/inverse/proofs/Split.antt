-- The sums of the rows, those of a column by its two parts, the rounding term in its first number, and the two passes together. Assumes nothing.
use mathlib.Core.Path.{◌≡◌, sym, ap, ◌∙◌}
use mathlib.Core.List.{List}
use Prim.Native.Nat.{ℕ, zero, suc, ◌+◌, ◌*◌, ◌%◌}
use native.Mathlib.Nat.{mul-zero}
use lib.Dec.{lit≤}
use lib.IntN.{ℤ, pos, negsuc, ◌+ℤ◌, ◌-ℤ◌, ◌*ℤ◌, +ℤ_idr, +ℤ_comm, -ℤ-+ℤ_cancel}
use Rattle.laws.proofs.Integer.{+ℤ-*ℤ}
use Rattle.laws.specs.Floor.{floor_divided}
use Rattle.laws.proofs.Floor.{floor_floor, floor_add}
use Rattle.laws.specs.Sum.{sum_z}
use Rattle.laws.proofs.Sum.{sum-mul, sum_ext}
use Rattle.laws.proofs.Linear.{sum-add, mul_past}
use Rattle.laws.specs.Block.{Is, cell}
use Rattle.quantiser.specs.Cut.{cut}
use Rattle.inverse.specs.Inverse.{A, cosine, S, F, output, inverse_at}
use Rattle.inverse.specs.Passes.{along, down_at, rows_at, columns_at, finished}
use Rattle.quantiser.specs.Lines.{Line, entry}

-- a line with the same entries has the same sums
pub along_same : {g : ℕ → ℤ} {r : List ℤ} → Line g r → (x : ℕ) → along r x ≡ sum_z 8 (λ v. g v *ℤ A v x)
unfolding along
along_same h x = sum_ext 8 _ _ (λ v l. ap (λ (z : ℤ). z *ℤ A v x) (h.entries v l))

-- what the rows give, from the block with rows and columns exchanged
abbrev pub across_at : List (List ℤ) → ℕ → ℕ → ℤ
across_at n v x = sum_z 8 (λ u. cell (pos 0) n u v *ℤ A u x)

pub across_line : (n : List (List ℤ)) (v : ℕ) {l r : List ℤ} → Line (λ u. cell (pos 0) n u v) l → Line (along l) r → Line (across_at n v) r
across_line n v h k = record { size = k.size; entries = λ x p. k.entries x p ∙ along_same h x }

pub across_rows : (f n t : List (List ℤ)) → Is (pos 0) (λ u v. cell (pos 0) f v u) n → Is (pos 0) (across_at n) t → Is (pos 0) (rows_at f) t
unfolding along
across_rows f n t h k =
    record {
      shape = k.shape;
      cells = λ v x p q. k.cells v x p q ∙ sum_ext 8 _ _ (λ u l. ap (λ (z : ℤ). z *ℤ A u x) (h.cells u v l p));
    }

-- the two parts of numbers d, together
module _ (d : ℕ → ℤ) (y : ℕ) where
  quotient : ℕ → ℤ
  quotient v = floor_divided (d v) 8192

  rest : ℕ → ℤ
  rest v = d v -ℤ quotient v *ℤ pos 8192

  parts : sum_z 8 (λ v. quotient v *ℤ A v y) *ℤ pos 8192 +ℤ sum_z 8 (λ v. rest v *ℤ A v y) ≡ sum_z 8 (λ v. d v *ℤ A v y)
  unfolding quotient rest
  parts =
      ap (λ (z : ℤ). z +ℤ sum_z 8 (λ v. rest v *ℤ A v y)) (sum-mul 8 (λ v. quotient v *ℤ A v y) (pos 8192))
      ∙ sym (sum-add 8 (λ v. quotient v *ℤ A v y *ℤ pos 8192) (λ v. rest v *ℤ A v y)) ∙ sum_ext 8 _ _ (λ v l. one v)
    where
      one : (v : ℕ) → quotient v *ℤ A v y *ℤ pos 8192 +ℤ rest v *ℤ A v y ≡ d v *ℤ A v y
      one v =
          ap (λ (z : ℤ). z +ℤ rest v *ℤ A v y) (mul_past (quotient v) (A v y) 8192)
          ∙ sym (+ℤ-*ℤ (quotient v *ℤ pos 8192) (rest v) (A v y))
          ∙ ap (λ (z : ℤ). z *ℤ A v y) (+ℤ_comm (quotient v *ℤ pos 8192) (rest v) ∙ -ℤ-+ℤ_cancel (d v) (quotient v *ℤ pos 8192))

-- the rounding term
rounding : ℕ → ℤ
rounding zero = pos 16777216
rounding (suc v) = pos 0

with_rounding : (t : List (List ℤ)) (x y : ℕ) → sum_z 8 (λ v. down_at t x v *ℤ A v y) ≡ sum_z 8 (λ v. cell (pos 0) t v x *ℤ A v y) +ℤ pos 16777216
unfolding rounding sum_z A cosine
with_rounding t x y = sum_ext 8 _ _ (λ v l. one v) ∙ sum-add 8 (λ v. cell (pos 0) t v x *ℤ A v y) rounding
  where
    first : pos 8192 *ℤ A 0 y ≡ pos 16777216
    first = ap (λ (n : ℕ). pos 8192 *ℤ cosine (n % 32)) (mul-zero (2 * y + 1))

    one : (v : ℕ) → down_at t x v *ℤ A v y ≡ cell (pos 0) t v x *ℤ A v y +ℤ rounding v
    one zero = +ℤ-*ℤ (cell (pos 0) t 0 x) (pos 8192) (A 0 y) ∙ ap (λ (z : ℤ). cell (pos 0) t 0 x *ℤ A 0 y +ℤ z) first
    one (suc v) = sym (+ℤ_idr (cell (pos 0) t (suc v) x *ℤ A (suc v) y))

-- a column's number, from the passes over its two parts
pub column_finished : (t : List (List ℤ)) (x y : ℕ) (g h l : List ℤ) → Line (down_at t x) g → Line (λ v. floor_divided (entry g v) 8192) h → Line (λ v. entry g v -ℤ floor_divided (entry g v) 8192 *ℤ pos 8192) l → finished (along h y) (along l y) ≡ columns_at t y x
unfolding finished output quotient rest
column_finished t x y g h l down high low =
    ap (λ (z : ℤ). cut (negsuc 255) (pos 255) z)
    (ap (λ (z : ℤ). floor_divided z 4096) (sym (floor_add (along h y) (along l y) 8192 (lit≤ tt)))
    ∙ floor_floor (along h y *ℤ pos 8192 +ℤ along l y) 8192 4096 ∙ ap (λ (z : ℤ). floor_divided z 33554432) together)
  where
    together : along h y *ℤ pos 8192 +ℤ along l y ≡ sum_z 8 (λ v. cell (pos 0) t v x *ℤ A v y) +ℤ pos 16777216
    together =
        (λ i. along_same high y i *ℤ pos 8192 +ℤ along_same low y i) ∙ parts (entry g) y
        ∙ sum_ext 8 _ _ (λ v m. ap (λ (z : ℤ). z *ℤ A v y) (down.entries v m)) ∙ with_rounding t x y

-- the column's sum of the rows' sums is the double sum
pub whole : (f t r : List (List ℤ)) → Is (pos 0) (rows_at f) t → Is (pos 0) (columns_at t) r → Is (pos 0) (inverse_at f) r
unfolding inverse_at S along
whole f t r h k =
    record {
      shape = k.shape;
      cells = λ y x p q.
          k.cells y x p q
          ∙ ap output
          (sum_ext 8 _ _ (λ v l. ap (λ (z : ℤ). z *ℤ A v y) (h.cells v x l q) ∙ sum-mul 8 (λ u. F f u v *ℤ A u x) (A v y)));
    }
