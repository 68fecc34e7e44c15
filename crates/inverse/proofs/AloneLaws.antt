-- A first coefficient alone gives the same output everywhere. Assumes nothing.
use mathlib.Core.Path.{◌≡◌, sym, ap, ◌∙◌}
use mathlib.Core.List.{List}
use Prim.Native.Nat.{ℕ, zero, suc, ◌+◌, ◌*◌, ◌%◌, ◌<◌}
use native.Mathlib.Nat.{mul-zero}
use native.Mathlib.Omega.{arith}
use lib.Dec.{lit≤}
use lib.IntN.{ℤ, pos, negsuc, ◌+ℤ◌, ◌*ℤ◌, zero-*ℤ}
use Rattle.laws.proofs.Integer.{+ℤ-*ℤ}
use Rattle.laws.specs.Floor.{floor_divided}
use Rattle.laws.proofs.Floor.{floor_floor, floor_exact}
use Rattle.laws.specs.Block.{cell}
use Rattle.laws.specs.Sum.{sum_z}
use Rattle.laws.proofs.Sum.{sum_ext, sum-mul}
use Rattle.laws.proofs.Linear.{coef, sound}
use Rattle.laws.specs.Linear.{term}
use Rattle.quantiser.specs.Cut.{cut}
use Rattle.inverse.specs.Inverse.{A, S, F, cosine, output, inverse_at}
use Rattle.inverse.specs.Alone.{flat_at}

-- the sum of a line that has a first number alone
alone_sum : (g : ℕ → ℤ) → ((i : ℕ) → 0 < i → i < 8 → g i ≡ pos 0) → (x : ℕ) → sum_z 8 (λ u. g u *ℤ A u x) ≡ g 0 *ℤ pos 2048
unfolding A cosine
alone_sum g h x = sym (sound g 8 (term 0 (pos 2048)) tt ∙ sum_ext 8 _ _ go)
  where
    nothing : (a k l : ℤ) → a ≡ pos 0 → a *ℤ k ≡ a *ℤ l
    nothing a k l e = ap (λ (z : ℤ). z *ℤ k) e ∙ zero-*ℤ k ∙ sym (ap (λ (z : ℤ). z *ℤ l) e ∙ zero-*ℤ l)

    go : (j : ℕ) → j < 8 → g j *ℤ coef (term 0 (pos 2048)) j ≡ g j *ℤ A j x
    go zero l = ap (λ (n : ℕ). g 0 *ℤ cosine (n % 32)) (sym (mul-zero (2 * x + 1)))
    go (suc j) l = nothing (g (suc j)) (coef (term 0 (pos 2048)) (suc j)) (A (suc j) x) (h (suc j) (omega arith) l)

-- the output from z · 2048 · 2048
alone_output : (z : ℤ) → output (z *ℤ pos 2048 *ℤ pos 2048) ≡ flat_at z
unfolding output flat_at
alone_output z = ap (λ (a : ℤ). cut (negsuc 255) (pos 255) a) divided
  where
    raised : z *ℤ pos 2048 *ℤ pos 2048 +ℤ pos 16777216 ≡ (z +ℤ pos 4) *ℤ pos 2048 *ℤ pos 2048
    raised =
        sym (ap (λ (a : ℤ). a *ℤ pos 2048) (+ℤ-*ℤ z (pos 4) (pos 2048)) ∙ +ℤ-*ℤ (z *ℤ pos 2048) (pos 8192) (pos 2048))

    divided : floor_divided (z *ℤ pos 2048 *ℤ pos 2048 +ℤ pos 16777216) 33554432 ≡ floor_divided (z +ℤ pos 4) 8
    divided =
        ap (λ (a : ℤ). floor_divided a 33554432) raised ∙ sym (floor_floor ((z +ℤ pos 4) *ℤ pos 2048 *ℤ pos 2048) 2048 16384)
        ∙ ap (λ (a : ℤ). floor_divided a 16384) (floor_exact ((z +ℤ pos 4) *ℤ pos 2048) 2048 (lit≤ tt))
        ∙ sym (floor_floor ((z +ℤ pos 4) *ℤ pos 2048) 2048 8) ∙ ap (λ (a : ℤ). floor_divided a 8) (floor_exact (z +ℤ pos 4) 2048 (lit≤ tt))

-- a block whose other numbers are all 0
pub alone_inverse : (block : List (List ℤ)) → ((v u : ℕ) → v < 8 → u < 8 → 0 < v + u → cell (pos 0) block v u ≡ pos 0) → (y x : ℕ) → inverse_at block y x ≡ flat_at (cell (pos 0) block 0 0)
unfolding inverse_at S
alone_inverse block rest y x = ap output (by_rows ∙ twice) ∙ alone_output (cell (pos 0) block 0 0)
  where
    row : ℕ → ℤ
    row v = sum_z 8 (λ u. F block u v *ℤ A u x)

    by_rows : S block x y ≡ sum_z 8 (λ v. row v *ℤ A v y)
    by_rows = sum_ext 8 _ _ (λ v l. sym (sum-mul 8 (λ u. F block u v *ℤ A u x) (A v y)))

    row_is : (v : ℕ) → v < 8 → row v ≡ F block 0 v *ℤ pos 2048
    row_is v l = alone_sum (λ u. F block u v) (λ u p m. rest v u l m (omega arith)) x

    none : (v : ℕ) → 0 < v → v < 8 → row v ≡ pos 0
    none v p l = row_is v l ∙ ap (λ (a : ℤ). a *ℤ pos 2048) (rest v 0 l (lit≤ tt) (omega arith)) ∙ zero-*ℤ (pos 2048)

    twice : sum_z 8 (λ v. row v *ℤ A v y) ≡ cell (pos 0) block 0 0 *ℤ pos 2048 *ℤ pos 2048
    twice = alone_sum row none y ∙ ap (λ (a : ℤ). a *ℤ pos 2048) (row_is 0 (lit≤ tt))
