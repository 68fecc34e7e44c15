-- A table's name is in a refusal alone, and every answer is told with all that it told before. Assumes nothing.
use Prim.Native.Nat.{ℕ, ◌+◌}
use mathlib.Core.Path.{◌≡◌, refl}
use mathlib.Core.Bool.{Bool, true, false}
use mathlib.Core.List.{List, [], ◌∷◌}
use lib.ListN.{length, drop}
use Rattle.laws.specs.Choice.{pick}
use Rattle.refusals.specs.declared.Reason.TheVariants.{BitsEnd, NoCodeword}
use Rattle.refusals.specs.declared.Table.{Table}
use Rattle.refusals.specs.Number.{number}
use Rattle.refusals.specs.Tables.{without_table}
use Rattle.bits.specs.Bits.{Bit}
use Rattle.bits.specs.Read.{Read, got, bad}
use Rattle.bits.specs.Code.{Entry, entry, starts, longer, lookup, word}
use Rattle.fields.specs.Answer.{found}
use Rattle.standing.specs.declared.Answer.TheVariants as G
use Rattle.demand1.specs.Stays.{WordStays, AnswerStays}

module _ (bs : List Bit) (at : ℕ) where
  -- what a table finds is the same, and what it leaves is
  looked : (tab : List Entry) (x y : Read ℕ) → without_table (found x) ≡ without_table (found y) → without_table (found (lookup tab bs at x)) ≡ without_table (found (lookup tab bs at y))
  unfolding lookup
  looked [] x y e = e
  looked (entry w m ∷ tab) x y e = go (starts w bs) (looked tab x y e)
    where
      go : (b : Bool) → without_table (found (lookup tab bs at x)) ≡ without_table (found (lookup tab bs at y))
          → without_table (found {A = ℕ} (elim b [ true ↦ got m (drop (length w) bs) (at + length w) | false ↦ lookup tab bs at x ]))
          ≡ without_table (found {A = ℕ} (elim b [ true ↦ got m (drop (length w) bs) (at + length w) | false ↦ lookup tab bs at y ]))
      go true h = refl
      go false h = h

  none : (cut : Bool) (a b : Table) → without_table (found {A = ℕ} (bad (pick cut BitsEnd (NoCodeword a)) at)) ≡ without_table (found {A = ℕ} (bad (pick cut BitsEnd (NoCodeword b)) at))
  unfolding number
  none true a b = refl
  none false a b = refl

pub word_stays : WordStays
unfolding word
word_stays table name bs at = looked bs at table.entries _ _ (none bs at (longer table.entries bs) table.name name)

pub answer_stays : AnswerStays
answer_stays (G.Old n part) = refl
answer_stays (G.Taken n part) = refl
answer_stays G.Lost = refl
answer_stays (G.Picture n tick) = refl
answer_stays (G.Refused why) = refl
