-- Document 02, T-09: "The log names every old number kept with its new one, every run of numbers skipped, and every block dropped with its answer, in the order of the blocks (a kept picture at its
-- last block, after its run)." Assumes nothing.
use Rattle.std.specs.Prelude.{◌≡◌, Bool, List, [], ◌∷◌, ◌++◌, ℕ, ◌-◌, ltb, length}
use Rattle.laws.specs.Choice.{pick}
use Rattle.ticks.specs.declared.Tick.{Tick}
use Rattle.ticks.specs.declared.Tick.TheVariants as T
use Rattle.standing.specs.Answered.{Said, said}
use Rattle.standing.specs.Answered as A
use Rattle.salvaging.specs.Kept.{new_number, next_number, finished_later}
use Rattle.salvaging.specs.declared.Entry.{Entry}
use Rattle.salvaging.specs.declared.Entries.{Entries}
use Rattle.salvaging.specs.declared.Entry.TheVariants as E
use Rattle.salvaging.specs.declared.Entries.TheVariants as N

-- ---- an entry; a block is named by its number in the list
pub data LogEntry : Type 0 where
  -- the block that finishes a picture, its old number and its new one
  kept : ℕ → ℕ → ℕ → LogEntry
  -- the block that finishes the picture after a run, the run's first number and its last. The run is a cut: ticks restart there
  skipped : ℕ → ℕ → ℕ → LogEntry
  -- a block that is not in the new clip, and its answer
  dropped : ℕ → Said → LogEntry

-- ---- the entries of a block
-- "every run of numbers skipped": those between the last kept one (or 0) and this one
abbrev pub run_before : ℕ → ℕ → ℕ → List LogEntry
run_before block next n = pick (ltb next n) (skipped block next (n - 1) ∷ []) []

-- of this block, with so many pictures kept and this number next, by its answer and whether its picture is finished later
abbrev pub entries_for : ℕ → ℕ → ℕ → Said → Bool → List LogEntry
entries_for block new next (A.picture n tick) later = run_before block next n ++ (kept block n new ∷ [])
-- a kept picture's other blocks have none
entries_for block new next (A.taken n part) later = pick later [] (dropped block (A.taken n part) ∷ [])
entries_for block new next (A.old n part) later = dropped block (A.old n part) ∷ []
entries_for block new next A.lost later = dropped block A.lost ∷ []
entries_for block new next (A.refused numbers) later = dropped block (A.refused numbers) ∷ []

-- ---- the log, of the blocks that were answered so, after those before
unfoldable pub log_from : List Said → List Said → List LogEntry
log_from before [] = []
log_from before (answer ∷ after) =
    entries_for (length before) (new_number before) (next_number before) answer (finished_later answer after) ++ log_from (before ++ (answer ∷ [])) after

-- ---- as numbers, five an entry: the block, what it is, and what belongs to it
abbrev pub laid_tick : ℕ → ℕ → Tick → List ℕ
laid_tick block n (T.Exact tick) = block ∷ 6 ∷ n ∷ tick ∷ 0 ∷ []
laid_tick block n (T.Estimated tick) = block ∷ 6 ∷ n ∷ tick ∷ 1 ∷ []

abbrev pub laid_answer : ℕ → Said → List ℕ
laid_answer block (A.taken n part) = block ∷ 2 ∷ n ∷ part ∷ 0 ∷ []
laid_answer block (A.old n part) = block ∷ 3 ∷ n ∷ part ∷ 0 ∷ []
laid_answer block A.lost = block ∷ 4 ∷ 0 ∷ 0 ∷ 0 ∷ []
laid_answer block (A.refused numbers) = block ∷ 5 ∷ numbers.number ∷ numbers.place ∷ numbers.table ∷ []
-- no block that finishes a picture is dropped
laid_answer block (A.picture n tick) = laid_tick block n tick

abbrev pub laid_entry : LogEntry → List ℕ
laid_entry (kept block old new) = block ∷ 0 ∷ old ∷ new ∷ 0 ∷ []
laid_entry (skipped block first last) = block ∷ 1 ∷ first ∷ last ∷ 0 ∷ []
laid_entry (dropped block answer) = laid_answer block answer

unfoldable pub laid_log : List LogEntry → List ℕ
laid_log [] = []
laid_log (entry ∷ entries) = laid_entry entry ++ laid_log entries

-- nothing of an entry is lost by that
abbrev pub EntryLaidOnce : Type 0
EntryLaidOnce = (a b : LogEntry) → laid_entry a ≡ laid_entry b → a ≡ b

-- ---- the code's entries
abbrev pub told_entry : Entry → LogEntry
told_entry (E.Kept block old new) = kept block old new
told_entry (E.Skipped block first last) = skipped block first last
told_entry (E.Dropped block answer) = dropped block (said answer)

abbrev pub told_entries : Entries → List LogEntry
told_entries N.Nothing = []
told_entries (N.One entry) = told_entry entry ∷ []
told_entries (N.Two first second) = told_entry first ∷ told_entry second ∷ []

-- nothing of them is lost by that
abbrev pub EntryToldOnce : Type 0
EntryToldOnce = (a b : Entry) → told_entry a ≡ told_entry b → a ≡ b

abbrev pub EntriesToldOnce : Type 0
EntriesToldOnce = (a b : Entries) → told_entries a ≡ told_entries b → a ≡ b
