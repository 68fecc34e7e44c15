-- A picture that can be laid out is read back as it was; and what is made of macroblocks that can be read is the layout of what is read of it. Assumes nothing.
use Rattle.std.specs.Prelude.{ℕ, ◌≤◌, ◌≡◌, Bool, List, [], ◌∷◌, T, length}
use Rattle.layout.specs.Value.{Picture}
use Rattle.layout.specs.Flat.{Flat, Shape, laid_out, read_back}
use Rattle.layout.specs.Numbers.{all, is_zero, is_level}
use Rattle.layout.specs.Valid.{every_group, has_lengths}
use Rattle.layout.specs.Proper.{StorablePicture}

abbrev pub ReadBack : Type 0
ReadBack = (s : Shape) (p : Picture) → StorablePicture s p → read_back s (laid_out s p) ≡ p

-- what a macroblock's bytes and levels must be so that nothing of them is lost: bytes and levels, and zeros alone where it isn't sent
pub record Readable (type quant across down : ℕ) (levels : List ℕ) : Type 0 where
  pub horizontal : across ≤ 255
  pub vertical : down ≤ 255
  pub levelled : T (all is_level levels)
  pub unsent : type ≡ 0 → (quant ≡ 0) × (across ≡ 0) × (down ≡ 0) × T (all is_zero levels)

-- a test that only such macroblocks pass
abbrev pub Reading : (ℕ → ℕ → List ℕ → List ℕ → Bool) → Type 0
Reading good =
    (number address type quant across down : ℕ) (levels : List ℕ) → T (good number address (type ∷ quant ∷ across ∷ down ∷ []) levels) → Readable type quant across down levels

abbrev pub LaidOutBack : Type 0
LaidOutBack =
    (good : ℕ → ℕ → List ℕ → List ℕ → Bool) → Reading good
    → (s : Shape) (numbers : List ℕ) (d : Flat) → length numbers ≡ s.groups → T (has_lengths s d) → T (every_group s.each good numbers d.macroblocks d.levels)
    → laid_out s (read_back s d) ≡ d
