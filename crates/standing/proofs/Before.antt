-- A receiver from before document 02's T-08 and one of now: they differ in the judgement alone. Assumes nothing.
use mathlib.Core.Path.{ap, ◌∙◌}
use Rattle.laws.specs.Choice.{pick}
use Rattle.refusals.specs.Told.{Told, refused}
use Rattle.coding.specs.Kind.{kind_size}
use Rattle.vault.specs.Block.{judge_of}
use Rattle.vault.specs.declared.Standard.{Standard}
use Rattle.vault.specs.declared.Header.{Header}
use Rattle.vault.proofs.Before.{earlier_judged_alike, taken_refused_before}
use Rattle.standing.specs.Receive.{lent_lengths, judged_block, by_judgement, decide, came_to, step}
use Rattle.standing.specs.Before.{judged_before, step_before, EarlierReceivedAlike, LaterIgnoredBefore}

pub earlier_received_alike : EarlierReceivedAlike
unfolding step decide step_before judged_block judged_before
earlier_received_alike D coding r block b h l u =
    ap (λ (told : Told Header). came_to coding r block b (by_judgement coding (pick (lent_lengths (kind_size r.kind) b) told (refused 1 0)) r block b.collection))
    (ap (λ (s : Standard). judge_of (kind_size r.kind) s r.clip block) h ∙ (earlier_judged_alike (kind_size r.kind) block l u).1 r.clip)

pub later_ignored_before : LaterIgnoredBefore
unfolding step_before judged_before by_judgement came_to
later_ignored_before D coding r block b header named good l =
    rw (named, (taken_refused_before (kind_size r.kind) block header good l).1 r.clip)
