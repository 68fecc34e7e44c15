-- A log made block after block is the whole log, in its lines and in what it ends with. Assumes nothing.
use mathlib.Core.Path.{◌≡◌, refl, sym, ap, ◌∙◌}
use mathlib.Core.Bool.{Bool, true, false}
use mathlib.Core.List.{List, [], ◌∷◌, ◌++◌, append_assoc}
use Prim.Native.Nat.{ℕ}
use lib.Dec.{eqb}
use Rattle.laws.specs.Choice.{pick, either}
use Rattle.refusals.specs.Told.{accepted, refused}
use Rattle.salvaging.specs.Log.{LogEntry}
use Rattle.salvaging.specs.Salvage.{Salvage}
use Rattle.account.specs.Status.{status_of}
use Rattle.salvage_log.specs.Lines.{entry_text, refused_text, entries_text, log_text}
use Rattle.salvage_log.specs.Cuts.{entry_cuts, cut_after, salvage_status, EveryRunTells, LogByBlocks}

text_by_blocks : (before entries : List LogEntry) → entries_text (before ++ entries) ≡ entries_text before ++ entries_text entries
unfolding entries_text
text_by_blocks [] entries = refl
text_by_blocks (entry ∷ before) entries =
    ap (λ (rest : List ℕ). entry_text entry ++ rest) (text_by_blocks before entries) ∙ sym (append_assoc (entry_text entry) (entries_text before) (entries_text entries))

cuts_by_blocks : (cut : Bool) (before entries : List LogEntry) → cut_after cut (before ++ entries) ≡ cut_after (cut_after cut before) entries
unfolding cut_after
cuts_by_blocks cut [] entries = refl
cuts_by_blocks cut (entry ∷ before) entries = cuts_by_blocks (either cut (entry_cuts entry)) before entries

pub log_by_blocks : LogByBlocks
log_by_blocks cut before entries = record { text = text_by_blocks before entries; cuts = cuts_by_blocks cut before entries }

-- whether no picture is kept
status_by : (none : Bool) (s : Salvage) → pick none 2 (pick (cut_after false s.log) 1 0) ≡ salvage_status (pick none (refused 43 0) (accepted s))
unfolding salvage_status
status_by true s = refl
status_by false s = refl

text_by : (none : Bool) (s : Salvage) → pick none (refused_text 43) (entries_text s.log) ≡ log_text (pick none (refused 43 0) (accepted s))
unfolding log_text
text_by true s = refl
text_by false s = refl

pub run_tells : EveryRunTells
unfolding status_of
run_tells s = record { text = text_by (eqb s.pictures 0) s; status = status_by (eqb s.pictures 0) s }
