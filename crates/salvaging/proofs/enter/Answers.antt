-- `salvaging::enter` meets its contract: by how many entries there are. Assumes nothing.
use Rattle.salvaging.proofs.Stores.{one_entered, two_entered}
use Rattle.salvaging.specs.Log.{laid_log, told_entry, told_entries}
use Rattle.salvaging.specs.declared.Entries.{Entries}
use lib.Seq.{sets}
use lib.ListN.{length}
use native.Mathlib.Omega.{arith}
use Prim.Native.Nat.{◌*◌}
use mathlib.Core.Path.{sym, ap, ◌∙◌}
use Rattle.salvaging.proofs.enter.Goals as goal

pub put_entry-requires : goal.put_entry-requires
put_entry-requires c = omega (arith, c.requires, ap (λ (e : Entries). length (told_entries e)) c.in-One.is)

pub put_entry-requires-in-Two : goal.put_entry-requires-in-Two
put_entry-requires-in-Two c = omega (arith, c.requires, ap (λ (e : Entries). length (told_entries e)) c.in-Two.is)

pub put_entry-requires-in-Two-2 : goal.put_entry-requires-in-Two-2
put_entry-requires-in-Two-2 c = omega (arith, c.requires, ap (λ (e : Entries). length (told_entries e)) c.in-Two.is)

pub returns-in-Nothing : goal.returns-in-Nothing
unfolding laid_log
returns-in-Nothing c =
    let l = c.args.log.now in
    record { value = omega (arith, ap (λ (e : Entries). length (told_entries e)) c.in-Nothing.is); log_after = sym (ap (λ (e : Entries). sets l (5 * c.args.entered) (laid_log (told_entries e))) c.in-Nothing.is) }

pub returns-in-One : goal.returns-in-One
returns-in-One c =
    let l = c.args.log.now in record { value = omega (arith, ap (λ (e : Entries). length (told_entries e)) c.in-One.is); log_after = c.put_entry.ensures ∙ one_entered l (5 * c.args.entered) (told_entry c.in-One.entry) ∙ sym (ap (λ (e : Entries). sets l (5 * c.args.entered) (laid_log (told_entries e))) c.in-One.is) }

pub returns-in-Two : goal.returns-in-Two
returns-in-Two c =
    let l = c.args.log.now in record {
      value = omega (arith, ap (λ (e : Entries). length (told_entries e)) c.in-Two.is);
      log_after = c.put_entry-in-Two-2.ensures ∙ two_entered l _ (5 * c.args.entered) (told_entry c.in-Two.first) (told_entry c.in-Two.second) c.put_entry-in-Two.ensures
          ∙ sym (ap (λ (e : Entries). sets l (5 * c.args.entered) (laid_log (told_entries e))) c.in-Two.is);
    }
