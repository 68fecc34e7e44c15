-- `salvaging::count` meets its contract: only a finished picture counts. Assumes nothing.
use Rattle.salvaging.specs.declared.Tally.{Tally}
use Rattle.salvaging.specs.Step.{tally_after}
use Rattle.standing.specs.Answered.{said}
use Rattle.standing.specs.declared.Answer.{Answer}
use Prim.Native.Nat.{ℕ, ◌+◌}
use mathlib.Core.Path.{sym, ap, ◌∙◌}
use Rattle.salvaging.proofs.count.Goals as goal

abbrev counted : ℕ → ℕ → Tally
counted pictures n = record { pictures = pictures + 1; next = n + 1 }

pub returns-in-Picture : goal.returns-in-Picture
returns-in-Picture c = ap (counted c.args.tally.pictures) c.from.ensures ∙ sym (ap (λ (a : Answer). tally_after c.args.tally (said a)) c.in-Picture.is)
