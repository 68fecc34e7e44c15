-- A tabulated list by its places. Assumes nothing.
use mathlib.Core.Path.{◌≡◌, ap, ◌∙◌}
use mathlib.Core.List.{List, []}
use Prim.Native.Nat.{ℕ, zero, suc, ◌+◌, ◌*◌, ◌<◌}
use native.Mathlib.Nat.{le_of_suc-le-suc, not-suc-le-zero, suc-mul}
use native.Mathlib.Omega.{arith}
use lib.ListN.{length, get_or, length-append, get_or-append}
use lib.Seq.{get_or-append-add}
use Rattle.laws.specs.Block.{Is}
use Rattle.laws.specs.Row.{row}
use Rattle.laws.proofs.Row.{length-row, get_d_row, is_row}
use Rattle.laws.specs.Tabulate.{made, rows}

module _ {A : Type 0} (d : A) where
  pub rows-length : (h w : ℕ) (g : ℕ → ℕ → A) → length (rows h w g) ≡ h * w
  unfolding rows
  rows-length zero w g = omega arith
  rows-length (suc h) w g =
      omega (arith, length-append (row w (g 0)) (rows h w (λ i. g (suc i))), length-row w (g 0), rows-length h w (λ i. g (suc i)), suc-mul h w)

  pub rows_at : (h w : ℕ) (g : ℕ → ℕ → A) (y x : ℕ) → y < h → x < w → get_or (rows h w g) (y * w + x) d ≡ g y x
  unfolding rows
  rows_at zero w g y x l m = absurd (not-suc-le-zero l)
  rows_at (suc h) w g zero x l m =
      ap (λ (n : ℕ). get_or (rows (suc h) w g) n d) first ∙ get_or-append (row w (g 0)) (rows h w (λ i. g (suc i))) d x (omega (arith, length-row w (g 0)))
      ∙ get_d_row w (g 0) d x m
    where
      first : 0 * w + x ≡ x
      first = omega arith
  rows_at (suc h) w g (suc y) x l m =
      ap (λ (n : ℕ). get_or (rows (suc h) w g) n d) next ∙ get_or-append-add (row w (g 0)) (rows h w (λ i. g (suc i))) (y * w + x) d
      ∙ rows_at h w (λ i. g (suc i)) y x (le_of_suc-le-suc l) m
    where
      next : suc y * w + x ≡ length (row w (g 0)) + (y * w + x)
      next = omega (arith, suc-mul y w, length-row w (g 0))

-- a block that has what g says in each place is the one made from g
pub is_made : {A : Type 0} {d : A} {g : ℕ → ℕ → A} {t : List (List A)} → Is d g t → t ≡ made g
unfolding made
is_made {A} {d} {g} {t} h = is_row [] t 8 (λ i. row 8 (g i)) h.shape.rows (λ i l. is_row d (get_or t i []) 8 (g i) (h.shape.cols i l) (λ j m. h.cells i j l m))
