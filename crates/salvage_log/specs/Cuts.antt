-- What a salvage ends with, by its log: a run is a cut, and so is a dropped block, unless it came before or too late. Assumes nothing.
use Rattle.std.specs.Prelude.{Ok, ◌≡◌, Bool, true, false, List, [], ◌∷◌, ◌++◌, ℕ, eqb}
use Rattle.laws.specs.Choice.{pick, either}
use Rattle.refusals.specs.Told.{Told, accepted, refused_by}
use Rattle.standing.specs.Answered.{Said, old, taken, lost, picture, refused}
use Rattle.salvaging.specs.Log.{LogEntry, kept, skipped, dropped}
use Rattle.salvaging.specs.Salvage.{Salvage, some_kept}
use Rattle.account.specs.Status.{status_of}
use Rattle.salvage_log.specs.Lines.{refused_text, entries_text, log_text}

-- a dropped block, by its answer
abbrev pub answer_cuts : Said → Bool
answer_cuts (old n part) = false
answer_cuts (taken n part) = true
answer_cuts lost = true
answer_cuts (picture n tick) = true
answer_cuts (refused numbers) = true

abbrev pub entry_cuts : LogEntry → Bool
entry_cuts (kept block before after) = false
entry_cuts (skipped block first last) = true
entry_cuts (dropped block answer) = answer_cuts answer

-- whether something was cut, with these entries after others
unfoldable pub cut_after : Bool → List LogEntry → Bool
cut_after cut [] = cut
cut_after cut (entry ∷ entries) = cut_after (either cut (entry_cuts entry)) entries

-- 2 where it is refused, 1 where something was cut, else 0
unfoldable pub salvage_status : Told Salvage → ℕ
salvage_status (accepted s) = pick (cut_after false s.log) 1 0
salvage_status (refused_by numbers) = 2

-- ---- what a run tells
-- "then 43, no picture kept": by its entries, its pictures and whether something was cut
pub record RunTells (s : Salvage) : Type 0 where
  pub text : pick (eqb s.pictures 0) (refused_text 43) (entries_text s.log) ≡ log_text (some_kept s)
  pub status : status_of (Ok (record { cut = cut_after false s.log; count = s.pictures })) ≡ salvage_status (some_kept s)

abbrev pub EveryRunTells : Type 0
EveryRunTells = (s : Salvage) → RunTells s

-- the entries of one block after those of others: their lines, and whether something was cut
pub record ByBlocks (cut : Bool) (before entries : List LogEntry) : Type 0 where
  pub text : entries_text (before ++ entries) ≡ entries_text before ++ entries_text entries
  pub cuts : cut_after cut (before ++ entries) ≡ cut_after (cut_after cut before) entries

abbrev pub LogByBlocks : Type 0
LogByBlocks = (cut : Bool) (before entries : List LogEntry) → ByBlocks cut before entries
