-- What `salvage` answers and leaves in its two buffers. Assumes nothing.
use Rattle.std.specs.Prelude.{◌≡◌, Bool, Result, Ok, Err, List, [], ◌++◌, ℕ, ◌*◌, ◌/◌, ◌%◌, eqb, length, drop}
use Rattle.laws.specs.Choice.{pick, both, either}
use Rattle.refusals.specs.declared.Refusal.{Refusal}
use Rattle.refusals.specs.Told.{numbers_of, Told, accepted, refused_by, refused}
use Rattle.coding.specs.declared.Kind.{Kind}
use Rattle.coding.specs.Coding.{Coding}
use Rattle.coding.specs.Kind.{coding_of}
use Rattle.standing.specs.Answered.{Said}
use Rattle.salvaging.specs.Kept.{kept_numbers}
use Rattle.salvaging.specs.Log.{LogEntry, log_from, laid_log}
use Rattle.salvaging.specs.Clip.{listed, joined, answers_to, clip_from}
use Rattle.salvaging.specs.declared.Salvaged.{Salvaged}

-- how many pictures are kept; the new clip's blocks; the log
pub record Salvage : Type 0 where
  pub pictures : ℕ
  pub clip : List (List ℕ)
  pub log : List LogEntry

-- of blocks that were answered so
abbrev pub salvage_by : ℕ → List (List ℕ) → List Said → Salvage
salvage_by new blocks said = record { pictures = length (kept_numbers said); clip = clip_from new [] said blocks; log = log_from [] said }

-- "then 43, no picture kept"
abbrev pub some_kept : Salvage → Told Salvage
some_kept s = pick (eqb s.pictures 0) (refused 43 0) (accepted s)

-- "The output has the input list's length, the log two entries a block", of five numbers each
abbrev pub lengths_named : ℕ → ℕ → ℕ → Bool
lengths_named list out log = both (eqb (list % 512) 0) (both (eqb out list) (eqb log (10 * (list / 512))))

module _ {D : Type 0} (coding : Kind → Coding D) where
  -- "From a damaged block list and the old clip's number and format": what a fresh receiver of that clip comes to
  abbrev pub salvage_from : Kind → ℕ → ℕ → List (List ℕ) → Salvage
  salvage_from kind old new blocks = salvage_by new blocks (answers_to coding old kind blocks)

  -- "Refusals: 1 for another length or a part block, 22 for a clip number 0, then 43, no picture kept."
  unfoldable pub salvage_of : Kind → ℕ → ℕ → List ℕ → ℕ → ℕ → Told Salvage
  salvage_of kind old new list out log =
      pick (lengths_named (length list) out log)
      (pick (either (eqb old 0) (eqb new 0)) (refused 22 0) (some_kept (salvage_from kind old new (listed list))))
      (refused 1 0)

-- ---- the answer: how many pictures, blocks and entries were written
pub record Figures : Type 0 where
  pub pictures : ℕ
  pub blocks : ℕ
  pub entries : ℕ

abbrev pub told_salvaged : Result Salvaged Refusal → Told Figures
told_salvaged (Ok written) = accepted (record { pictures = written.pictures; blocks = written.blocks; entries = written.entries })
told_salvaged (Err why) = refused_by (numbers_of why)

-- the answer with both buffers at exit
pub record SalvageEnd : Type 0 where
  pub answer : Told Figures
  pub out : List ℕ
  pub log : List ℕ

abbrev pub figures_of : Salvage → Figures
figures_of s = record { pictures = s.pictures; blocks = length s.clip; entries = length s.log }

-- these bytes or numbers from the first on; "what lies after is untouched"
abbrev pub laid_over : List ℕ → List ℕ → List ℕ
laid_over new old = new ++ drop (length new) old

-- all is untouched on a refusal
abbrev pub salvage_end : List ℕ → List ℕ → Told Salvage → SalvageEnd
salvage_end out log (accepted s) = record { answer = accepted (figures_of s); out = laid_over (joined s.clip) out; log = laid_over (laid_log s.log) log }
salvage_end out log (refused_by numbers) = record { answer = refused_by numbers; out = out; log = log }

-- what `salvage` promises
abbrev pub SalvageDoes : Kind → ℕ → ℕ → List ℕ → List ℕ → List ℕ → Result Salvaged Refusal → List ℕ → List ℕ → Type 0
SalvageDoes kind old new list out log answer out' log' =
    record { answer = told_salvaged answer; out = out'; log = log' } ≡ salvage_end out log (salvage_of coding_of kind old new list (length out) (length log))

-- that leaves one answer and one end of each buffer
abbrev pub SalvageOnce : Type 0
SalvageOnce =
    (kind : Kind) (old new : ℕ) (list out log : List ℕ) (a a' : Result Salvaged Refusal) (o o' l l' : List ℕ)
    → SalvageDoes kind old new list out log a o l → SalvageDoes kind old new list out log a' o' l' → (a ≡ a') × (o ≡ o') × (l ≡ l')
