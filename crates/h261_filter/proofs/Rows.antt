-- A finished row of the filter, at the block's edge and inside it. Assumes nothing.
use mathlib.Core.Path.{◌≡◌, sym, ap, ◌∙◌}
use mathlib.Core.List.{List, []}
use Prim.Native.Nat.{ℕ, ◌+◌, ◌-◌, ◌≤◌, ◌<◌}
use lib.IntN.{ℤ, pos, ◌+ℤ◌, ◌*ℤ◌}
use lib.ListN.{get_or}
use Rattle.laws.specs.Block.{cell}
use Rattle.quantiser.specs.Lines.{Line, entry}
use Rattle.h261_filter.specs.Filter.{weighted, rounded_sixteenth, filter_at, AtEdge}
use Rattle.h261_filter.proofs.FilterLaws.{weighted_edge, weighted_inside, weighted_same}

module _ (t : List (List ℤ)) (row : ℕ) (g : List ℤ) {r : List ℤ} (finished : Line (λ x. rounded_sixteenth (weighted (entry g) x)) r) where
  filtered : ((x : ℕ) → x < 8 → entry g x ≡ weighted (λ y. cell (pos 0) t y x) row) → Line (filter_at t row) r
  unfolding filter_at
  filtered e =
      record {
        size = finished.size;
        entries = λ x l. finished.entries x l ∙ ap rounded_sixteenth (weighted_same (entry g) (λ x. weighted (λ y. cell (pos 0) t y x) row) e x l);
      }

  pub row_edge : AtEdge row → Line (λ x. pos 4 *ℤ entry (get_or t row []) x) g → Line (filter_at t row) r
  row_edge e h = filtered (λ x l. h.entries x l ∙ sym (weighted_edge (λ y. cell (pos 0) t y x) row e))

  pub row_inside : 1 ≤ row → row ≤ 6 → Line (λ x. entry (get_or t (row - 1) []) x +ℤ pos 2 *ℤ entry (get_or t row []) x +ℤ entry (get_or t (row + 1) []) x) g → Line (filter_at t row) r
  row_inside p q h = filtered (λ x l. h.entries x l ∙ sym (weighted_inside (λ y. cell (pos 0) t y x) row p q))
