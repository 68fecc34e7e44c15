-- `h261_validity::refresh::is_refresh` meets its contract. The loop's invariant: the macroblocks passed are sent as INTRA. Assumes nothing.
use mathlib.Core.Path.{◌≡◌}
use mathlib.Core.Bool.{Bool, true}
use mathlib.Core.List.{List}
use Prim.Native.Nat.{ℕ, ◌*◌, ◌-◌, ◌≤◌}
use lib.ListN.{get_or}
use Rattle.laws.specs.Table.{all_b}
use Rattle.h261_words.specs.Words.{is_intra}
use Rattle.h261_validity.proofs.refresh.is_refresh.Given as goal

abbrev intra_at : List ℕ → ℕ → Bool
intra_at macroblocks n = is_intra (get_or macroblocks (n * 4) 0)

abbrev pub invariant-loop-n : goal.invariant-loop-n
invariant-loop-n l = (l.n ≤ l.count) × (all_b l.n (intra_at l.macroblocks) ≡ true)
