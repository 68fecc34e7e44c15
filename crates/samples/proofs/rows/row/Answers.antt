-- `samples::rows::row` meets its contract: each turn of its loop reads the next sample. Assumes nothing.
use mathlib.Core.Path.{refl}
use mathlib.Core.List.{List}
use Prim.Native.Nat.{ℕ, ◌≤◌}
use native.Mathlib.Nat.{lt_of_lt_of_le}
use borrow.Author.Rules.{rules}
use Rattle.laws.specs.Rows.{Begins}
use Rattle.laws.proofs.Rows.{begins_none, begins_more}
use Rattle.samples.proofs.rows.row.Goals as goal

begins_until : {m n k : ℕ} {g : ℕ → ℕ} {r : List ℕ} → Begins m n g r → k ≤ n → Begins m k g r
begins_until h l = record { size = h.size; first = λ j q. h.first j (lt_of_lt_of_le q l) }

pub loop-j-init : goal.loop-j-init
loop-j-init c = (search rules, begins_none refl)

pub loop-j-preserved : goal.loop-j-preserved
loop-j-preserved c = (search rules, begins_more c.loop-j.invariant.1 (search rules) refl)

pub returns : goal.returns
returns c = begins_until c.loop-j.invariant.1 (search rules)
