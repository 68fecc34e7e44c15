-- A walk over the entries of a group, as `macroblocks_in` and `every_macroblock` make it: over a layout it comes from one macroblock that is sent to the next. Assumes nothing.
use Prim.Native.Nat.{ℕ, zero, suc, ◌+◌, ◌-◌, ◌*◌, ◌≤◌, ◌<◌}
use mathlib.Core.Path.{◌≡◌, refl, ap, ap₂, ◌∙◌}
use mathlib.Core.List.{List, [], ◌∷◌, ◌++◌, append_assoc}
use native.Mathlib.Omega.{arith}
use Rattle.laws.proofs.Zeros.{zeros, zeros_split}
use Rattle.layout.specs.Value.{Macroblock}
use Rattle.layout.specs.Flat.{fields_of}
use Rattle.layout.proofs.Spread.{rows, levels_of}

-- k entries from an address on, of their fields and levels; it passes over what isn't sent where that may be
module _ (each : ℕ) (R : Type 0) (walk : ℕ → ℕ → List ℕ → List ℕ → R) (May : ℕ → Type 0)
    (unsent : (k address : ℕ) (fields levels : List ℕ) → May address → walk (suc k) address (zeros 4 ++ fields) (zeros 384 ++ levels) ≡ walk k (address + 1) fields levels) where
  skip : (j k address n : ℕ) (fields levels : List ℕ) → n ≡ j + k → ((a : ℕ) → address ≤ a → a < address + j → May a)
      → walk n address (zeros (j * 4) ++ fields) (zeros (j * 384) ++ levels) ≡ walk k (address + j) fields levels
  unfolding zeros
  skip zero k address n fields levels e may =
      ap₂ (λ (a b : ℕ). walk a b fields levels) (omega arith) (omega arith)
  skip (suc j) k address n fields levels e may =
      ap (λ (a : ℕ). walk a address (zeros (suc j * 4) ++ fields) (zeros (suc j * 384) ++ levels)) (omega arith)
      ∙ ap₂ (walk (suc (j + k)) address) (zeros_split 4 (j * 4) (suc j * 4) fields (omega arith)) (zeros_split 384 (j * 384) (suc j * 384) levels (omega arith))
      ∙ unsent (j + k) address (zeros (j * 4) ++ fields) (zeros (j * 384) ++ levels) (may address (omega arith) (omega arith))
      ∙ skip j k (address + 1) (j + k) fields levels refl (λ a l h. may a (omega arith) (omega arith))
      ∙ ap (λ (a : ℕ). walk k a fields levels) (omega arith)

  pub walk_none : (last : ℕ) (fields levels : List ℕ) → last ≤ each → ((a : ℕ) → last < a → a ≤ each → May a)
      → walk (each - last) (suc last) (rows each 4 fields_of last [] ++ fields) (rows each 384 levels_of last [] ++ levels) ≡ walk 0 (suc last + (each - last)) fields levels
  unfolding rows
  walk_none last fields levels o may = skip (each - last) 0 (suc last) (each - last) fields levels (omega arith) (λ a l h. may a (omega arith) (omega arith))

  pub walk_more : (last : ℕ) (m : Macroblock) (ms : List Macroblock) → last < m.address → m.address ≤ each → ((a : ℕ) → last < a → a < m.address → May a) → (fields levels : List ℕ)
      → walk (each - last) (suc last) (rows each 4 fields_of last (m ∷ ms) ++ fields) (rows each 384 levels_of last (m ∷ ms) ++ levels)
      ≡ walk (suc (each - m.address)) m.address (fields_of m ++ (rows each 4 fields_of m.address ms ++ fields)) (levels_of m ++ (rows each 384 levels_of m.address ms ++ levels))
  unfolding rows
  walk_more last m ms l h may fields levels =
      let skipped : ℕ = m.address - suc last in
      ap₂ (walk (each - last) (suc last))
      (append_assoc (zeros (skipped * 4)) (fields_of m ++ rows each 4 fields_of m.address ms) fields)
      (append_assoc (zeros (skipped * 384)) (levels_of m ++ rows each 384 levels_of m.address ms) levels ∙ ap (λ (x : List ℕ). zeros (skipped * 384) ++ x) (append_assoc (levels_of m) (rows each 384 levels_of m.address ms) levels))
      ∙ skip skipped (suc (each - m.address)) (suc last) (each - last) _ _ (omega arith) (λ a l h. may a (omega arith) (omega arith))
      ∙ ap (λ (a : ℕ). walk (suc (each - m.address)) a (fields_of m ++ (rows each 4 fields_of m.address ms ++ fields)) (levels_of m ++ (rows each 384 levels_of m.address ms ++ levels))) (omega arith)
