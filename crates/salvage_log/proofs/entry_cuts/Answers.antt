-- `salvage_log::entry_cuts` meets its contract: by what the entry is. Assumes nothing.
use borrow.Author.Rules.{rules}
use Rattle.salvage_log.proofs.entry_cuts.Goals as goal

pub returns-in-Skipped : goal.returns-in-Skipped
returns-in-Skipped c = search rules
