-- The macroblocks of a description, one after another: each that is sent, and those that aren't left out. Assumes nothing.
use Prim.Native.Nat.{ℕ, zero, suc, ◌+◌}
use mathlib.Core.Path.{◌≡◌, refl}
use mathlib.Core.List.{List, ◌∷◌}
use native.Mathlib.Omega.{arith}
use lib.ListN.{get_or, drop}
use Rattle.layout.specs.Value.{Macroblock}
use Rattle.layout.specs.Flat.{macroblock_in, macroblocks_in}

described_sent : (type : ℕ) (m : Macroblock) (rest : List Macroblock) → (type ≡ 0 → ⊥) → elim type as (λ n. List Macroblock) [ zero ↦ rest | suc n ↦ m ∷ rest ] ≡ m ∷ rest
described_sent zero m rest l = absurd (l refl)
described_sent (suc type) m rest l = refl

described_not : (type : ℕ) (m : Macroblock) (rest : List Macroblock) → type ≡ 0 → elim type as (λ n. List Macroblock) [ zero ↦ rest | suc n ↦ m ∷ rest ] ≡ rest
described_not zero m rest l = refl
described_not (suc type) m rest l = absurd (omega arith)

module _ (n address : ℕ) (fields levels : List ℕ) where
  pub macroblocks_sent : (get_or fields 0 0 ≡ 0 → ⊥) → macroblocks_in (suc n) address fields levels ≡ macroblock_in address fields levels ∷ macroblocks_in n (address + 1) (drop 4 fields) (drop 384 levels)
  unfolding macroblocks_in
  macroblocks_sent e = described_sent (get_or fields 0 0) _ _ e

  pub macroblocks_not : get_or fields 0 0 ≡ 0 → macroblocks_in (suc n) address fields levels ≡ macroblocks_in n (address + 1) (drop 4 fields) (drop 384 levels)
  unfolding macroblocks_in
  macroblocks_not e = described_not (get_or fields 0 0) _ _ e
