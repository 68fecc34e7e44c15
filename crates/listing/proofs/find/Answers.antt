-- `listing::find` meets its contract: by the clip, and by what was checked. Assumes nothing.
use Prim.Native.Nat.{ℕ}
use mathlib.Core.Path.{◌≡◌, refl, sym, ap, ◌∙◌}
use mathlib.Core.List.{List}
use Rattle.refusals.specs.Told.{Told}
use Rattle.size.specs.declared.Size.{Size}
use Rattle.standing.specs.declared.Receiver.{Receiver}
use Rattle.listing.specs.declared.Clip.{Clip}
use Rattle.listing.specs.Listed.{opened_by, found_by}
use Rattle.listing.proofs.find.Goals as goal

by_clip : (size : Size) {clip arm : Clip} (block : List ℕ) {opened : Told Receiver} → clip ≡ arm → opened ≡ found_by size arm block → opened ≡ found_by size clip block
by_clip size block e o = o ∙ sym (ap (λ (k : Clip). found_by size k block) e)

pub returns-in-Known : goal.returns-in-Known
unfolding found_by
returns-in-Known c = by_clip _ _ c.in-Known.is refl

pub returns-in-Unknown : goal.returns-in-Unknown
unfolding found_by
returns-in-Unknown c = by_clip _ _ c.in-Unknown.is (c.open_checked.ensures ∙ ap (opened_by _) c.check-checked.ensures)

pub returns-in-Asked : goal.returns-in-Asked
unfolding found_by
returns-in-Asked c = by_clip _ _ c.in-Asked.is (c.open_checked-in-Asked.ensures ∙ ap (opened_by _) c.of_clip-checked.ensures)
