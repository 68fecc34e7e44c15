-- `salvage_log::cut_after` meets its contract: an entry after another. Assumes nothing.
use mathlib.Core.Path.{◌≡◌, sym, ap, ◌∙◌}
use mathlib.Core.Bool.{Bool}
use Rattle.laws.specs.Choice.{either}
use Rattle.salvaging.specs.declared.Entries.{Entries}
use Rattle.salvaging.specs.Log.{told_entry, told_entries}
use Rattle.salvage_log.specs.Cuts.{entry_cuts, cut_after}
use Rattle.salvage_log.proofs.cut_after.Goals as goal

arm : {entries named : Entries} (cut : Bool) → entries ≡ named → cut_after cut (told_entries named) ≡ cut_after cut (told_entries entries)
arm cut e = sym (ap (λ (es : Entries). cut_after cut (told_entries es)) e)

pub returns-in-Nothing : goal.returns-in-Nothing
unfolding cut_after
returns-in-Nothing c = arm _ c.in-Nothing.is

pub returns-in-One : goal.returns-in-One
unfolding cut_after
returns-in-One c = c.cut_by.ensures ∙ arm _ c.in-One.is

pub returns-in-Two : goal.returns-in-Two
unfolding cut_after
returns-in-Two c =
    let second = told_entry c.in-Two.second in
    c.cut_by-in-Two-2.ensures ∙ ap (λ (cut : Bool). either cut (entry_cuts second)) c.cut_by-in-Two.ensures ∙ arm _ c.in-Two.is
