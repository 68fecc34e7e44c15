-- From `zeros_from` on, every level of a block is zero. Assumes nothing.
use Prim.Native.Nat.{ℕ, ◌≤◌}
use mathlib.Core.Path.{◌≡◌, refl, sym, ap, ◌∙◌}
use mathlib.Core.Bool.{Bool, true, false}
use mathlib.Core.List.{List}
use native.Mathlib.Omega.{arith}
use lib.Dec.{T}
use lib.ListN.{length, take, drop, length-drop, drop_of_length-le}
use lib.Seq.{drop-drop, take_all}
use Rattle.laws.specs.Choice.{pick}
use Rattle.laws.proofs.Choice.{T_true, true-T}
use Rattle.layout.specs.Numbers.{all, is_zero}
use Rattle.layout.proofs.Levels.{all_join}
use Rattle.levels.specs.Zeros.{zeros_from}

module _ (levels : List ℕ) (size : length levels ≡ 64) where
  none : T (all is_zero (drop 64 levels))
  none = let l : length levels ≤ 64 = omega arith in true-T (all is_zero (drop 64 levels)) (ap (all is_zero) (drop_of_length-le levels l))

  half : all is_zero (take 32 (drop 32 levels)) ≡ true → T (all is_zero (drop 32 levels))
  half e =
      let l : length (drop 32 levels) ≤ 32 = omega (arith, length-drop 32 levels, size) in
      true-T (all is_zero (drop 32 levels)) (ap (all is_zero) (sym (take_all 32 (drop 32 levels) l)) ∙ e)

  most : all is_zero (take 32 (drop 32 levels)) ≡ true → all is_zero (take 16 (drop 16 levels)) ≡ true → T (all is_zero (drop 16 levels))
  most e f =
      all_join is_zero 16 (drop 16 levels) (true-T (all is_zero (take 16 (drop 16 levels))) f)
      (true-T (all is_zero (drop 16 (drop 16 levels))) (ap (all is_zero) (drop-drop 16 16 levels) ∙ T_true (all is_zero (drop 32 levels)) (half e)))

  pub zeros_within : {r : ℕ} → r ≡ zeros_from levels → (r ≤ 64) × T (all is_zero (drop r levels))
  zeros_within {r} is = go (all is_zero (take 32 (drop 32 levels))) (all is_zero (take 16 (drop 16 levels))) refl refl is
    where
      at : (n : ℕ) → r ≡ n → T (all is_zero (drop n levels)) → T (all is_zero (drop r levels))
      at n e t = true-T (all is_zero (drop r levels)) (ap (λ (k : ℕ). all is_zero (drop k levels)) e ∙ T_true (all is_zero (drop n levels)) t)

      go : (a b : Bool) → all is_zero (take 32 (drop 32 levels)) ≡ a → all is_zero (take 16 (drop 16 levels)) ≡ b → r ≡ pick a (pick b 16 32) 64 → (r ≤ 64) × T (all is_zero (drop r levels))
      go true true e f is = (omega arith, at 16 is (most e f))
      go true false e f is = (omega arith, at 32 is (half e))
      go false b e f is = (omega arith, at 64 is none)
