-- The table's numbers and the sums of a pass are small. Assumes nothing.
use mathlib.Core.Path.{◌≡◌, sym, ap, subst, ◌∙◌}
use mathlib.Core.Bool.{Bool, true, false}
use mathlib.Core.List.{List}
use Prim.Native.Nat.{ℕ, zero, suc, ◌+◌, ◌*◌, ◌-◌, ◌%◌, ◌<◌}
use native.Mathlib.Nat.{le_refl}
use lib.Dec.{ltb, lit≤}
use lib.IntN.{ℤ, pos, ◌-ℤ◌, ◌*ℤ◌}
use lib.ListN.{get_or}
use mir.Syntax.{w32}
use mir.Val.{to_z, of_z}
use Rattle.laws.specs.Choice.{pick}
use Rattle.laws.proofs.Table.{low_at}
use Rattle.laws.specs.Integer.{Low}
use Rattle.laws.proofs.Integer.{low_neg, low_mul, low_add, low_up, low_shr, back}
use Rattle.laws.specs.Floor.{floor_divided}
use Rattle.laws.proofs.Floor.{floor_shift, left_low}
use Rattle.laws.proofs.Sum.{low_sum}
use Rattle.inverse.specs.Inverse.{A, cosine, magnitudes}
use Rattle.quantiser.specs.Lines.{Small, SmallRow, Line, entry}
use Rattle.quantiser.proofs.Lines.{line_low}
use Rattle.inverse.specs.Passes.{along, down_at}

either_low : (b : Bool) {x y : ℤ} {m : ℕ} → Low m x → Low m y → Low m (pick b x y)
either_low true p q = p
either_low false p q = q

magnitude_low : (k : ℕ) → Low 2841 (pos (get_or magnitudes k 0))
magnitude_low k = record { low = low_at 2841 magnitudes tt k }

pub A_low : (u x : ℕ) → Low 2841 (A u x)
unfolding A cosine
A_low u x =
    let k : ℕ = (2 * x + 1) * u % 32 in
    either_low (ltb k 8) (magnitude_low k)
    (either_low (ltb k 16) (low_neg (magnitude_low (16 - k)))
    (either_low (ltb k 24) (low_neg (magnitude_low (k - 16))) (magnitude_low (32 - k))))

pub along_low : (f : List ℤ) (x : ℕ) {m : ℕ} → SmallRow m f → Low (8 * (m * 2841)) (along f x)
unfolding along
along_low f x s = low_sum 8 _ (λ k l. low_mul (s k) (A_low k x))

-- ---- on the way through a column
pub column_small : (t : List (List ℤ)) (x : ℕ) {g : List ℤ} → Small 46546944 t → Line (down_at t x) g → SmallRow 46555136 g
column_small t x s h = line_low h down_low
  where
    down_low : (v : ℕ) → Low 46555136 (down_at t x v)
    down_low zero = low_add {b = pos 8192} {n = 8192} (s 0 x) (record { low = le_refl 8192 })
    down_low (suc v) = low_up 46555136 (s (suc v) x) (lit≤ tt)

pub highs_small : (g : List ℤ) {h : List ℤ} → SmallRow 46555136 g → Line (λ v. floor_divided (entry g v) 8192) h → SmallRow 16384 h
highs_small g s h =
    line_low h
    (λ v. low_up 16384 (subst (λ (z : ℤ). Low 5684 z) (sym (floor_shift (entry g v) 8192)) (low_shr 8192 5683 (s v) (lit≤ tt))) (lit≤ tt))

pub lows_small : (g : List ℤ) {l : List ℤ} → Line (λ v. entry g v -ℤ floor_divided (entry g v) 8192 *ℤ pos 8192) l → SmallRow 16384 l
lows_small g h = line_low h (λ v. low_up 16384 (left_low (entry g v) 8192 (lit≤ tt)) (lit≤ tt))

-- a pass's number, read back from its bits
module _ (f : List ℤ) {r : List ℤ} (s : SmallRow 16384 f) (h : Line (along f) r) {y : ℕ} (l : y < 8) where
  pub pass_is : to_z w32 (of_z w32 (entry r y)) ≡ along f y
  pass_is = ap (λ (z : ℤ). to_z w32 (of_z w32 z)) (h.entries y l) ∙ back w32 tt (along_low f y s)

  pub pass_low : Low 372375552 (to_z w32 (of_z w32 (entry r y)))
  pass_low = subst (λ (z : ℤ). Low 372375552 z) (sym pass_is) (along_low f y s)
