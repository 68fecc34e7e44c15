-- `salvaging::laid` meets its contract: by what the entry is. Assumes nothing.
use Rattle.salvaging.specs.Log.{laid_entry, told_entry}
use Rattle.salvaging.specs.declared.Entry.{Entry}
use mathlib.Core.Path.{sym, ap, ◌∙◌}
use Rattle.salvaging.proofs.laid.Goals as goal

pub returns-in-Kept : goal.returns-in-Kept
returns-in-Kept c = sym (ap (λ (e : Entry). laid_entry (told_entry e)) c.in-Kept.is)

pub returns-in-Skipped : goal.returns-in-Skipped
returns-in-Skipped c = sym (ap (λ (e : Entry). laid_entry (told_entry e)) c.in-Skipped.is)

pub returns-in-Dropped : goal.returns-in-Dropped
returns-in-Dropped c = c.laid_answer.ensures ∙ sym (ap (λ (e : Entry). laid_entry (told_entry e)) c.in-Dropped.is)
