-- An answer is one that is told as it is: nothing of it is lost. Assumes nothing.
use mathlib.Core.Path.{◌≡◌, sym, ap}
use Rattle.std.specs.Prelude.{Ok, Err}
use Rattle.refusals.proofs.Told.{accepted_once, refused_once, told_apart}
use Rattle.sender.specs.Send.{Reply, OpenedToldOnce, AnswerToldOnce, SentToldOnce}

pub opened_told_once : OpenedToldOnce
opened_told_once (Ok s) (Ok t) e = ap Ok (accepted_once e)
opened_told_once (Err a) (Err b) e = ap Err (refused_once a b e)
opened_told_once (Ok s) (Err b) e = absurd (told_apart e)
opened_told_once (Err a) (Ok t) e = absurd (told_apart (sym e))

pub answer_told_once : AnswerToldOnce
answer_told_once (Ok m) (Ok n) e = ap Ok (accepted_once e)
answer_told_once (Err a) (Err b) e = ap Err (refused_once a b e)
answer_told_once (Ok m) (Err b) e = absurd (told_apart e)
answer_told_once (Err a) (Ok n) e = absurd (told_apart (sym e))

pub sent_told_once : SentToldOnce
sent_told_once a b e =
    let answers : a.answer ≡ b.answer = answer_told_once a.answer b.answer (ap (λ (x : Reply). x.answer) e) in
    λ i. record { answer = answers i; next = (e i).next }
