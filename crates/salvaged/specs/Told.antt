-- Document 02, T-09: "The log names every old number kept with its new one, every run of numbers skipped, and every block dropped with its answer". What a log and a new clip together tell, whatever
-- the coding. Assumes nothing.
use Rattle.std.specs.Prelude.{◌≡◌, Bool, true, false, List, [], ◌∷◌, ◌++◌, ℕ, zero, suc, ◌+◌, ◌-◌, ◌*◌, ◌≤◌, ◌<◌, length}
use Rattle.coding.specs.declared.Kind.{Kind}
use Rattle.coding.specs.Coding.{Coding}
use Rattle.vault.specs.Block.{pictures}
use Rattle.vault.specs.Renewed.{renewed_block}
use Rattle.ticks.specs.Tick.{is_exact}
use Rattle.standing.specs.Answered.{Said}
use Rattle.standing.specs.Answered as A
use Rattle.salvaging.specs.Kept.{kept_numbers, number_after}
use Rattle.salvaging.specs.Log.{LogEntry, kept, skipped, dropped}
use Rattle.salvaging.specs.Clip.{answers_to}
use Rattle.salvaging.specs.Salvage.{Salvage, salvage_from}

-- so many numbers, from one on
unfoldable pub numbers_from : ℕ → ℕ → List ℕ
numbers_from zero from = []
numbers_from (suc n) from = from ∷ numbers_from n (from + 1)

-- ---- "dropped and written blocks together are all blocks"
-- the log's entries of dropped blocks
unfoldable pub dropped_in : List LogEntry → List LogEntry
dropped_in [] = []
dropped_in (kept block old new ∷ rest) = dropped_in rest
dropped_in (skipped block first last ∷ rest) = dropped_in rest
dropped_in (dropped block answer ∷ rest) = dropped block answer ∷ dropped_in rest

-- each block from this number on, in its turn, is written anew, or is in the log with its number and its answer
pub data Accounted (clip : ℕ) : ℕ → List (List ℕ) → List Said → List (List ℕ) → List LogEntry → Type 0 where
  all_told : {at : ℕ} → Accounted clip at [] [] [] []
  is_written : {at : ℕ} {block : List ℕ} {blocks made : List (List ℕ)} {answer : Said} {answered : List Said} {entries : List LogEntry} (picture : ℕ) → Accounted clip (at + 1) blocks answered made entries
      → Accounted clip at (block ∷ blocks) (answer ∷ answered) (renewed_block clip picture block ∷ made) entries
  is_dropped : {at : ℕ} {block : List ℕ} {blocks made : List (List ℕ)} {answer : Said} {answered : List Said} {entries : List LogEntry} → Accounted clip (at + 1) blocks answered made entries
      → Accounted clip at (block ∷ blocks) (answer ∷ answered) made (dropped at answer ∷ entries)

pub record WrittenOrDropped (clip : ℕ) (blocks : List (List ℕ)) (answered : List Said) (s : Salvage) : Type 0 where
  pub each : Accounted clip 0 blocks answered s.clip (dropped_in s.log)
  pub count : length s.clip + length (dropped_in s.log) ≡ length blocks

-- ---- "runs and kept numbers together are 0 to the last kept"
-- the old numbers that are kept, and the new ones
unfoldable pub old_numbers : List LogEntry → List ℕ
old_numbers [] = []
old_numbers (kept block old new ∷ rest) = old ∷ old_numbers rest
old_numbers (skipped block first last ∷ rest) = old_numbers rest
old_numbers (dropped block answer ∷ rest) = old_numbers rest

unfoldable pub new_numbers : List LogEntry → List ℕ
new_numbers [] = []
new_numbers (kept block old new ∷ rest) = new ∷ new_numbers rest
new_numbers (skipped block first last ∷ rest) = new_numbers rest
new_numbers (dropped block answer ∷ rest) = new_numbers rest

-- all old numbers that it names, in its order
unfoldable pub old_named : List LogEntry → List ℕ
old_named [] = []
old_named (kept block old new ∷ rest) = old ∷ old_named rest
old_named (skipped block first last ∷ rest) = numbers_from (last + 1 - first) first ++ old_named rest
old_named (dropped block answer ∷ rest) = old_named rest

pub record NumbersCovered (answered : List Said) (s : Salvage) : Type 0 where
  -- the kept ones are those that the receiver finished
  pub kept_are : old_numbers s.log ≡ kept_numbers answered
  -- each number from 0 to the last kept one, once and in order
  pub covered : old_named s.log ≡ numbers_from (number_after 0 (old_numbers s.log)) 0
  -- "renumber them from 0 without gaps"
  pub renumbered : new_numbers s.log ≡ numbers_from s.pictures 0

-- ---- "no limit can be passed"
abbrev pub NumbersFall : List LogEntry → Type 0
NumbersFall [] = Unit {0}
NumbersFall (kept block old new ∷ rest) = (new ≤ old) × (old < pictures) × NumbersFall rest
NumbersFall (skipped block first last ∷ rest) = NumbersFall rest
NumbersFall (dropped block answer ∷ rest) = NumbersFall rest

pub record LimitsKept (blocks : List (List ℕ)) (s : Salvage) : Type 0 where
  -- "The output has the input list's length, the log two entries a block": neither is too short
  pub few_blocks : length s.clip ≤ length blocks
  pub few_entries : length s.log ≤ 2 * length blocks
  -- no new number is above its old one, which is a picture's
  pub numbers : NumbersFall s.log

-- ---- "each run entry is where they restart"
-- of each finished picture, whether its tick is exact
unfoldable pub exact_ticks : List Said → List Bool
exact_ticks [] = []
exact_ticks (A.picture n tick ∷ rest) = is_exact tick ∷ exact_ticks rest
exact_ticks (A.old n part ∷ rest) = exact_ticks rest
exact_ticks (A.taken n part ∷ rest) = exact_ticks rest
exact_ticks (A.lost ∷ rest) = exact_ticks rest
exact_ticks (A.refused numbers ∷ rest) = exact_ticks rest

-- of each kept picture, whether no run stands before it
unfoldable pub no_run_before : Bool → List LogEntry → List Bool
no_run_before none [] = []
no_run_before none (kept block old new ∷ rest) = none ∷ no_run_before none rest
no_run_before none (skipped block first last ∷ rest) = no_run_before false rest
no_run_before none (dropped block answer ∷ rest) = no_run_before none rest

-- a run isn't empty, and the picture after it is kept at the same block
abbrev pub LeadsOn : ℕ → ℕ → ℕ → List LogEntry → Type 0
LeadsOn block first last [] = ⊥
LeadsOn block first last (kept other old new ∷ rest) = (first ≤ last) × (other ≡ block) × (old ≡ last + 1)
LeadsOn block first last (skipped other from to ∷ rest) = ⊥
LeadsOn block first last (dropped other answer ∷ rest) = ⊥

abbrev pub RunsLead : List LogEntry → Type 0
RunsLead [] = Unit {0}
RunsLead (kept block old new ∷ rest) = RunsLead rest
RunsLead (skipped block first last ∷ rest) = LeadsOn block first last rest × RunsLead rest
RunsLead (dropped block answer ∷ rest) = RunsLead rest

pub record RunsRestart (answered : List Said) (s : Salvage) : Type 0 where
  pub lead : RunsLead s.log
  -- the first is where the old receiver's ticks turn estimated
  pub turn : exact_ticks answered ≡ no_run_before true s.log

-- ---- all of them, of a salvage of these blocks
pub record AllTold {D : Type 0} (coding : Kind → Coding D) (kind : Kind) (old new : ℕ) (blocks : List (List ℕ)) (s : Salvage) : Type 0 where
  pub blocks_are : WrittenOrDropped new blocks (answers_to coding old kind blocks) s
  pub numbers_are : NumbersCovered (answers_to coding old kind blocks) s
  pub limits : LimitsKept blocks s
  pub runs : RunsRestart (answers_to coding old kind blocks) s

abbrev pub LogTellsAll : Type 1
LogTellsAll = (D : Type 0) (coding : Kind → Coding D) (kind : Kind) (old new : ℕ) (blocks : List (List ℕ)) → AllTold coding kind old new blocks (salvage_from coding kind old new blocks)
