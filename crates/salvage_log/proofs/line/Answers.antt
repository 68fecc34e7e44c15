-- `salvage_log::line` meets its contract: an arm for each entry. Assumes nothing.
use Rattle.std.proofs.Common.{◌≡◌, sym, ap, ◌∙◌, length, List, ℕ}
use Rattle.text.specs.Text.{over}
use Rattle.salvaging.specs.declared.Entry.{Entry}
use Rattle.salvaging.specs.Log.{told_entry}
use Rattle.salvage_log.specs.Lines.{entry_text}
use Rattle.salvage_log.proofs.line.Goals as goal

-- the line of the variant that the entry is, is the entry's
arm : {entry named : Entry} → entry ≡ named → entry_text (told_entry named) ≡ entry_text (told_entry entry)
arm e = sym (ap (λ (it : Entry). entry_text (told_entry it)) e)

pub returns-in-Kept : goal.returns-in-Kept
unfolding entry_text
returns-in-Kept c =
    record {
      prefix_len = c.kept_line.ensures.prefix_len;
      value = c.kept_line.ensures.value ∙ ap length (arm c.in-Kept.is);
      out_after = c.kept_line.ensures.out_after ∙ ap (λ (text : List ℕ). over text c.args.out.now) (arm c.in-Kept.is);
    }

pub returns-in-Skipped : goal.returns-in-Skipped
unfolding entry_text
returns-in-Skipped c =
    record {
      prefix_len = c.skipped_line.ensures.prefix_len;
      value = c.skipped_line.ensures.value ∙ ap length (arm c.in-Skipped.is);
      out_after = c.skipped_line.ensures.out_after ∙ ap (λ (text : List ℕ). over text c.args.out.now) (arm c.in-Skipped.is);
    }

pub returns-in-Dropped : goal.returns-in-Dropped
unfolding entry_text
returns-in-Dropped c =
    record {
      prefix_len = c.dropped_line.ensures.prefix_len;
      value = c.dropped_line.ensures.value ∙ ap length (arm c.in-Dropped.is);
      out_after = c.dropped_line.ensures.out_after ∙ ap (λ (text : List ℕ). over text c.args.out.now) (arm c.in-Dropped.is);
    }
