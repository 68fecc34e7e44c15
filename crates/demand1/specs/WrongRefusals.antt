-- Programs that demand 1 rules out: a reader whose refusal has other numbers than are due, and a receiver whose refusal changes a store. Assumes nothing.
use Rattle.std.specs.Prelude.{ℕ, ◌≡◌, List, Result, Ok, Err}
use Rattle.refusals.specs.declared.Refusal.{Refusal}
use Rattle.refusals.specs.declared.Reason.{Reason}
use Rattle.refusals.specs.Number.{refusal}
use Rattle.refusals.specs.Told.{Numbers, refused_by, told_verdict}
use Rattle.layout.specs.Flat.{Flat}
use Rattle.coding.specs.declared.Kind.{Kind}
use Rattle.standing.specs.declared.Receiver.{Receiver}
use Rattle.standing.specs.Answered.{said}
use Rattle.standing.specs.Receive.{Buffers}
use Rattle.demand1.specs.Order.{first_verdict}
use Rattle.demand1.specs.Rules.{read_rules}
use Rattle.demand1.specs.Demand1.{Programs, verdict_said, Demand1, Keeps}

-- ---- wrong: a reader one of whose refusals has another number than the one that is due, or another place or table
abbrev pub MisnumberedWrong : Type 0
MisnumberedWrong = (p : Programs) (k : Kind) (bytes : List ℕ) (n : ℕ) (before : Flat) (due numbers : Numbers) → first_verdict (read_rules k bytes n before) ≡ refused_by due
    → told_verdict (p.read k bytes n before).answer ≡ refused_by numbers → (numbers ≡ due → ⊥) → Demand1 p → ⊥

-- so one that keeps every promise, but whose reader's refusals are all for this reason
abbrev pub renamed : Reason → Result (Unit {0}) Refusal → Result (Unit {0}) Refusal
renamed reason (Ok u) = Ok tt
renamed reason (Err why) = Err (refusal reason why.place)

abbrev pub naming_one : Reason → Programs → Programs
naming_one reason p = record {
  read = λ k bytes n before. record { answer = renamed reason (p.read k bytes n before).answer; left = (p.read k bytes n before).left };
  decode = p.decode;
  write = p.write;
  check = p.check;
  judge = p.judge;
  open_receiver = p.open_receiver;
  receive = p.receive;
  open_sender = p.open_sender;
  send = p.send;
  list = p.list;
}

abbrev pub NamingOneWrong : Type 0
NamingOneWrong = (p : Programs) → Keeps p → (reason : Reason) → Demand1 (naming_one reason p) → ⊥

-- ---- wrong: a receiver that has changed a store after a call that is refused, as one does that draws before it judges
abbrev pub ChangedStoreWrong : Type 0
ChangedStoreWrong = (p : Programs) (r : Receiver) (block : List ℕ) (b : Buffers) (numbers : Numbers) → verdict_said (said (p.receive r block b).answer.answer) ≡ refused_by numbers
    → ((p.receive r block b).left.both ≡ b.both → ⊥) → Demand1 p → ⊥
