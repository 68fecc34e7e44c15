-- What `replay` promises leaves one answer and one end of each buffer. Assumes nothing.
use mathlib.Core.Path.{◌≡◌, sym, ap, ◌∙◌}
use Rattle.refusals.proofs.Told.{refused_once, accepted_once, told_apart}
use Rattle.capture.specs.Replay.{Figures, ReplayEnd, told_replayed, ReplayOnce}
use Rattle.capture.specs.declared.Replayed.{Replayed}
use Rattle.refusals.specs.declared.Refusal.{Refusal}
use Rattle.std.specs.Prelude.{Result, Ok, Err}

answer_once : (a b : Result Replayed Refusal) → told_replayed a ≡ told_replayed b → a ≡ b
answer_once (Ok r) (Ok r') e = ap (λ (f : Figures). Ok (record { lock = f.lock; bits = f.bits; places = f.places })) (accepted_once e)
answer_once (Ok r) (Err why) e = absurd (told_apart e)
answer_once (Err why) (Ok r) e = absurd (told_apart (sym e))
answer_once (Err why) (Err why') e = ap Err (refused_once why why' e)

pub replay_once : ReplayOnce
replay_once capture n out places a a' o o' p p' d d' =
    let same = d ∙ sym d' in
    (answer_once a a' (ap (λ (r : ReplayEnd). r.answer) same), ap (λ (r : ReplayEnd). r.out) same, ap (λ (r : ReplayEnd). r.places) same)
