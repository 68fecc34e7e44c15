-- What document 01 calls each answer, with its values ("0 taken 0.0", "1 picture 0 tick 0", "4 picture 2 tick about 33", "n lost", "n refused 8 at 311 table 5"). Assumes nothing.
use Rattle.std.specs.Prelude.{ℕ, ◌≡◌, Result, Ok, Err}
use Rattle.refusals.specs.declared.Refusal.{Refusal}
use Rattle.refusals.specs.Told.{Numbers, numbers_of, Told, accepted, refused_by}
use Rattle.ticks.specs.declared.Tick.{Tick}
use Rattle.standing.specs.declared.Receiver.{Receiver}
use Rattle.standing.specs.declared.Answer.{Answer}
use Rattle.standing.specs.declared.Received.{Received}
use Rattle.standing.specs.declared.Answer.TheVariants as A

-- ---- opening: a receiver, or the refusal's numbers
abbrev pub told_opened : Result Receiver Refusal → Told Receiver
told_opened (Ok receiver) = accepted receiver
told_opened (Err why) = refused_by (numbers_of why)

-- ---- a block
pub data Said : Type 0 where
  -- picture and part
  old : ℕ → ℕ → Said
  taken : ℕ → ℕ → Said
  lost : Said
  -- the picture's number, and its tick
  picture : ℕ → Tick → Said
  -- the refusal's numbers
  refused : Numbers → Said

abbrev pub said : Answer → Said
said (A.Old n part) = old n part
said (A.Taken n part) = taken n part
said A.Lost = lost
said (A.Picture n tick) = picture n tick
said (A.Refused why) = refused (numbers_of why)

-- with the state that a call gives back
pub record Reply : Type 0 where
  pub answer : Said
  pub next : Receiver

abbrev pub reply : Said → Receiver → Reply
reply answer next = record { answer = answer; next = next }

abbrev pub told_received : Received → Reply
told_received x = reply (said x.answer) x.next

-- ---- nothing of an answer is lost by that
abbrev pub OpenedToldOnce : Type 0
OpenedToldOnce = (a b : Result Receiver Refusal) → told_opened a ≡ told_opened b → a ≡ b

abbrev pub AnswerToldOnce : Type 0
AnswerToldOnce = (a b : Answer) → said a ≡ said b → a ≡ b

abbrev pub ReceivedToldOnce : Type 0
ReceivedToldOnce = (a b : Received) → told_received a ≡ told_received b → a ≡ b
