-- Laws of the blocks of one picture, one after another. Assumes nothing.
use mathlib.Core.Path.{◌≡◌, refl, sym, ap, ◌∙◌}
use mathlib.Core.Bool.{Bool}
use mathlib.Core.List.{List, ◌++◌, append_assoc}
use Prim.Native.Nat.{ℕ, zero, suc, ◌+◌, ◌*◌}
use native.Mathlib.Numerals.{add-one}
use native.Mathlib.Omega.{arith}
use lib.ListN.{length, take, drop, length-append}
use lib.Seq.{take_at, drop_at, drop-drop}
use Rattle.vault.specs.declared.Standard.{Standard}
use Rattle.vault.specs.Parts.{payload_at, header_at, block_at, first_blocks}
use Rattle.vault.proofs.KeptLaws.{payload_length}
use Rattle.vault.proofs.Made.{block_length}

module _ (standard : Standard) (clip picture : ℕ) (refresh : Bool) (bytes : List ℕ) (count : ℕ) where
  abbrev at : ℕ → List ℕ
  at part = block_at standard clip picture refresh bytes count part

  abbrev first : ℕ → List ℕ
  first n = first_blocks standard clip picture refresh bytes count n

  pub at_length : (part : ℕ) → length (at part) ≡ 512
  unfolding block_at
  at_length part = block_length (header_at standard clip picture refresh count part) (payload_at bytes count part) (payload_length bytes count part)

  pub first-length : (n : ℕ) → length (first n) ≡ 512 * n
  unfolding first_blocks
  first-length zero = refl
  first-length (suc n) = omega (arith, length-append (first n) (at n), first-length n, at_length n)

  pub first_more : (n : ℕ) → first (n + 1) ≡ first n ++ at n
  unfolding first_blocks
  first_more n = ap first (add-one n)

  -- one more block, stored after those before it in `out`
  pub one_more : (n : ℕ) (out₀ out : List ℕ) → out ≡ first n ++ drop (512 * n) out₀
      → take (512 * n) out ++ (at n ++ drop 512 (drop (512 * n) out)) ≡ first (n + 1) ++ drop (512 * (n + 1)) out₀
  one_more n out₀ out e =
      (λ i. before i ++ (at n ++ drop 512 (after i)))
      ∙ ap (λ (l : List ℕ). first n ++ (at n ++ l)) (drop-drop 512 (512 * n) out₀ ∙ ap (λ (k : ℕ). drop k out₀) next)
      ∙ sym (append_assoc (first n) (at n) (drop (512 * (n + 1)) out₀))
      ∙ ap (λ (l : List ℕ). l ++ drop (512 * (n + 1)) out₀) (sym (first_more n))
    where
      before : take (512 * n) out ≡ first n
      before = ap (take (512 * n)) e ∙ take_at (first n) (drop (512 * n) out₀) (512 * n) (first-length n)

      after : drop (512 * n) out ≡ drop (512 * n) out₀
      after = ap (drop (512 * n)) e ∙ drop_at (first n) (drop (512 * n) out₀) (512 * n) (first-length n)

      next : 512 * n + 512 ≡ 512 * (n + 1)
      next = omega arith
