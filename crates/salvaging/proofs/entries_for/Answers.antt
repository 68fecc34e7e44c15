-- `salvaging::entries_for` meets its contract: by the answer. Assumes nothing.
use Rattle.salvaging.specs.Log.{LogEntry, kept, run_before, entries_for}
use Rattle.standing.specs.Answered.{said}
use Rattle.standing.specs.declared.Answer.{Answer}
use Prim.Native.Nat.{ℕ}
use mathlib.Core.List.{List, [], ◌∷◌, ◌++◌}
use mathlib.Core.Path.{sym, ap, ◌∙◌}
use Rattle.salvaging.proofs.entries_for.Goals as goal

abbrev ended : ℕ → ℕ → ℕ → ℕ → List LogEntry
ended block new next n = run_before block next n ++ (kept block n new ∷ [])

pub returns-in-Picture : goal.returns-in-Picture
returns-in-Picture c = c.kept_entries.ensures ∙ ap (ended c.args.block c.args.tally.pictures c.args.tally.next) c.from.ensures ∙ sym (ap (λ (a : Answer). entries_for c.args.block c.args.tally.pictures c.args.tally.next (said a) c.args.later) c.in-Picture.is)

pub returns-else-later : goal.returns-else-later
returns-else-later c = rw (c.in-Taken.is, c.if-later.false)

pub returns-in-Old : goal.returns-in-Old
returns-in-Old c = rw c.in-Old.is

pub returns-in-Lost : goal.returns-in-Lost
returns-in-Lost c = rw c.in-Lost.is

pub returns-in-Refused : goal.returns-in-Refused
returns-in-Refused c = rw c.in-Refused.is
