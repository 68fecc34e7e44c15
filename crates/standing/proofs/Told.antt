-- An answer is one that is told as it is: nothing of it is lost. Assumes nothing.
use mathlib.Core.Path.{◌≡◌, refl, sym, ap, ◌∙◌}
use Rattle.std.specs.Prelude.{Ok, Err}
use Rattle.refusals.proofs.Told.{accepted_once, refused_once, told_apart, refusal_of, refusal_back}
use Rattle.standing.specs.declared.Answer.{Answer}
use Rattle.standing.specs.Answered.{Said, old, taken, lost, picture, refused, said, Reply, OpenedToldOnce, AnswerToldOnce, ReceivedToldOnce}
use Rattle.standing.specs.declared.Answer.TheVariants as A

pub opened_told_once : OpenedToldOnce
opened_told_once (Ok r) (Ok q) e = ap Ok (accepted_once e)
opened_told_once (Err a) (Err b) e = ap Err (refused_once a b e)
opened_told_once (Ok r) (Err b) e = absurd (told_apart e)
opened_told_once (Err a) (Ok q) e = absurd (told_apart (sym e))

-- ---- a block's answer, back from what is said of it
answer_of : Said → Answer
answer_of (old n part) = A.Old n part
answer_of (taken n part) = A.Taken n part
answer_of lost = A.Lost
answer_of (picture n tick) = A.Picture n tick
answer_of (refused numbers) = A.Refused (refusal_of numbers)

answer_back : (a : Answer) → answer_of (said a) ≡ a
unfolding answer_of
answer_back (A.Old n part) = refl
answer_back (A.Taken n part) = refl
answer_back A.Lost = refl
answer_back (A.Picture n tick) = refl
answer_back (A.Refused why) = ap A.Refused (refusal_back why)

pub answer_told_once : AnswerToldOnce
answer_told_once a b e = sym (answer_back a) ∙ ap answer_of e ∙ answer_back b

pub received_told_once : ReceivedToldOnce
received_told_once a b e =
    let answers : a.answer ≡ b.answer = answer_told_once a.answer b.answer (ap (λ (x : Reply). x.answer) e) in
    λ i. record { answer = answers i; next = (e i).next }
