-- Where a refusal stands among the reads (document 02, T-13). Assumes nothing.
use Rattle.std.specs.Prelude.{ℕ, ◌≡◌, List, ◌++◌, T, eqb, length}
use Rattle.laws.specs.Choice.{both, either}
use Rattle.refusals.specs.declared.Refusal.{Refusal}
use Rattle.refusals.specs.Number.{number}
use Rattle.bits.specs.Places.{total_width}

-- its place is where the reads before it end, and it ends with one read, which failed or is against a rule, or with both components of a vector
pub record StandsAmong (r : Refusal) (widths : List ℕ) : Type 0 where
  pub before : List ℕ
  pub after : List ℕ
  pub all : widths ≡ before ++ after
  pub placed : total_width before ≡ r.place
  pub last : T (either (eqb (length after) 1) (both (eqb (length after) 2) (eqb (number r.reason) 12)))
