-- `listing::open_checked` meets its contract: by what was checked. Assumes nothing.
use mathlib.Core.Path.{◌≡◌, refl, sym, ap, ◌∙◌}
use Rattle.std.specs.Prelude.{Result}
use Rattle.std.proofs.lemmas.Result.{err_from_is_err_and}
use Rattle.refusals.specs.declared.Refusal.{Refusal}
use Rattle.refusals.specs.Told.{Told}
use Rattle.size.specs.declared.Size.{Size}
use Rattle.vault.specs.declared.Header.{Header}
use Rattle.vault.specs.Block.{told_checked}
use Rattle.standing.specs.declared.Receiver.{Receiver}
use Rattle.listing.specs.Listed.{opened_by}
use Rattle.listing.proofs.open_checked.Goals as goal

by_check : (size : Size) {checked arm : Result Header Refusal} {opened : Told Receiver} → checked ≡ arm → opened ≡ opened_by size (told_checked arm) → opened ≡ opened_by size (told_checked checked)
by_check size e o = o ∙ sym (ap (λ (x : Result Header Refusal). opened_by size (told_checked x)) e)

pub returns-in_err-header : goal.returns-in_err-header
returns-in_err-header c =
    let p = err_from_is_err_and c.from_residual.result c.from_residual.ensures.1 in
    rw (p.1, p.2) (by_check _ c.in_err-header.was refl)

pub returns : goal.returns
returns c = by_check _ c.in_ok-header.was c.open_by.ensures
