-- Demand 1: "Any bytes, any bit count, any block gets an answer and the work ends. Nothing is asked of the caller. A refusal carries its number and bit place from document 01's
-- table, and no sample store changes by it." A predicate over any programs of the entry points' kinds, as total functions on values, and the theorem that whatever keeps the
-- promises meets it. Assumes nothing.
use Rattle.std.specs.Prelude.{ℕ, ◌≡◌, List, ◌++◌, length, Option, Some, None, Result}
use Rattle.refusals.specs.declared.Refusal.{Refusal}
use Rattle.refusals.specs.Told.{Numbers, accepted, refused_by, told_verdict, verdict_on}
use Rattle.size.specs.declared.Size.{Size}
use Rattle.layout.specs.Flat.{Flat}
use Rattle.refusals.specs.Writing.{told_written}
use Rattle.coding.specs.declared.Kind.{Kind}
use Rattle.coding.specs.declared.Kind.TheVariants.{H263}
use Rattle.coding.specs.Kind.{kind_in}
use Rattle.coding.specs.Described.{ReadSays, ReadLeaves, WriteSays, WriteLeaves}
use Rattle.vault.specs.declared.Header.{Header}
use Rattle.vault.specs.declared.Standard.{Standard}
use Rattle.vault.specs.Block.{clip_of, part_of, standard_of, header_of, told_checked, check_of, judge_of}
use Rattle.vault.specs.Parts.{placed_payload}
use Rattle.standing.specs.declared.Receiver.{Receiver}
use Rattle.standing.specs.declared.Received.{Received}
use Rattle.standing.specs.Answered.{Said, said}
use Rattle.standing.specs.Receive.{Buffers, fresh_receiver, failed_receiver}
use Rattle.receiver.specs.Receiving.{ReceiveDoes}
use Rattle.sender.specs.declared.Sender.{Sender}
use Rattle.sender.specs.declared.Sent.{Sent}
use Rattle.sender.specs.Sending.{SendDoes}
use Rattle.decoder.specs.Decoded.{DecodeSays, DecodeLeaves}
use Rattle.listing.specs.declared.Clip.{Clip}
use Rattle.listing.specs.declared.Listed.{Listed}
use Rattle.listing.specs.Listed.{came, listed}
use Rattle.standing.specs.Answered as A
use Rattle.standing.specs.Receive as R
use Rattle.sender.specs.Send as S
use Rattle.listing.specs.declared.Clip.TheVariants as K
use Rattle.demand1.specs.Order as O
use Rattle.demand1.specs.Order.{first_verdict, Refuses}
use Rattle.demand1.specs.Rules.{read_rules, decode_rules, write_rules, send_rules, open_rules, check_rules, judge_rules, block_rules, last_rules}

-- ---- programs: what a call answers, and what it leaves in what it was lent
pub record Left (A W : Type 0) : Type 0 where
  pub answer : A
  pub left : W

pub record Programs : Type 0 where
  pub read : Kind → List ℕ → ℕ → Flat → Left (Result (Unit {0}) Refusal) Flat
  -- the bytes, N, the reference and the store
  pub decode : Kind → List ℕ → ℕ → List ℕ → List ℕ → Left (Result (Unit {0}) Refusal) (List ℕ)
  pub write : Kind → Flat → List ℕ → Left (Result ℕ Refusal) (List ℕ)
  pub check : Size → List ℕ → Result Header Refusal
  pub judge : Size → Standard → ℕ → List ℕ → Result Header Refusal
  pub open_receiver : ℕ → Kind → Result Receiver Refusal
  pub receive : Receiver → List ℕ → Buffers → Left Received Buffers
  pub open_sender : ℕ → Kind → Result Sender Refusal
  pub send : Sender → Flat → S.Buffers → Left Sent S.Buffers
  pub list : Size → Clip → List ℕ → Buffers → Left Listed Buffers

-- ---- a block that comes to this receiver, which is the state as it was, or is made for it
-- its verdict: every other answer is no refusal
abbrev pub verdict_said : Said → O.Verdict
verdict_said (A.old n part) = accepted tt
verdict_said (A.taken n part) = accepted tt
verdict_said A.lost = accepted tt
verdict_said (A.picture n tick) = accepted tt
verdict_said (A.refused numbers) = refused_by numbers

pub record BlockRefuses {X : Type 0} (r : Receiver) (block : List ℕ) (b : Buffers) (before : X) (state : Receiver → X) (answer : Said) (next : X) (left : Buffers) : Type 0 where
  pub due : verdict_said answer ≡ first_verdict (block_rules r block b ++ last_rules r block b)
  -- "no sample store changes by it"
  pub stores : (numbers : Numbers) → verdict_said answer ≡ refused_by numbers → left.both ≡ b.both
  -- "A refusal changes no buffer and no state"
  pub unchanged : (numbers : Numbers) → first_verdict (block_rules r block b) ≡ refused_by numbers → (next ≡ before) × (left ≡ b)
  -- "except a picture refused at its last part: that part is in the collection buffer and the receiver is lost"
  pub at_last : (numbers : Numbers) → first_verdict (block_rules r block b) ≡ accepted tt → verdict_said answer ≡ refused_by numbers
      → (next ≡ state (failed_receiver r (header_of block))) × (left ≡ record { collection = placed_payload block (part_of block) b.collection; both = b.both })

-- the lister's, which is given a size: of the block's standard. H.261 has no sub-QCIF: such a block is one of the other standard
abbrev pub kind_or : Size → Option Kind → Kind
kind_or size (Some kind) = kind
kind_or size None = H263 size

abbrev pub kind_of_block : Size → List ℕ → Kind
kind_of_block size block = kind_or size (kind_in (standard_of block) size)

-- "takes the first block without 21 or 22 as the clip", or the clip that was asked for
abbrev pub receiver_of : Size → Clip → List ℕ → Receiver
receiver_of size (K.Known r) block = r
receiver_of size (K.Asked clip) block = fresh_receiver clip (kind_of_block size block)
receiver_of size K.Unknown block = fresh_receiver (clip_of block) (kind_of_block size block)

-- ---- the demand
pub record Demand1 (p : Programs) : Type 0 where
  pub reads : (k : Kind) (bytes : List ℕ) (n : ℕ) (before : Flat)
      → Refuses (read_rules k bytes n before) (told_verdict (p.read k bytes n before).answer) before (p.read k bytes n before).left
  pub decodes : (k : Kind) (bytes : List ℕ) (n : ℕ) (reference store : List ℕ)
      → Refuses (decode_rules k bytes n reference store) (told_verdict (p.decode k bytes n reference store).answer) store (p.decode k bytes n reference store).left
  pub writes : (k : Kind) (d : Flat) (out : List ℕ) → Refuses (write_rules k d (length out)) (verdict_on (told_written (p.write k d out).answer)) out (p.write k d out).left
  pub checks : (size : Size) (block : List ℕ) → verdict_on (told_checked (p.check size block)) ≡ first_verdict (check_rules size block)
  pub judges : (size : Size) (standard : Standard) (clip : ℕ) (block : List ℕ) → verdict_on (told_checked (p.judge size standard clip block)) ≡ first_verdict (judge_rules size standard clip block)
  pub opens_receiver : (clip : ℕ) (kind : Kind) → verdict_on (A.told_opened (p.open_receiver clip kind)) ≡ first_verdict (open_rules clip)
  pub receives : (r : Receiver) (block : List ℕ) (b : Buffers)
      → BlockRefuses r block b r (λ s. s) (said (p.receive r block b).answer.answer) (p.receive r block b).answer.next (p.receive r block b).left
  pub opens_sender : (clip : ℕ) (kind : Kind) → verdict_on (S.told_opened (p.open_sender clip kind)) ≡ first_verdict (open_rules clip)
  -- the state and the lent buffers
  pub sends : (s : Sender) (d : Flat) (b : S.Buffers)
      → Refuses {W = Sender × S.Buffers} (send_rules s d b) (verdict_on (S.told_answer (p.send s d b).answer.answer)) (s, b) ((p.send s d b).answer.next, (p.send s d b).left)
  pub lists : (size : Size) (clip : Clip) (block : List ℕ) (b : Buffers)
      → BlockRefuses (receiver_of size clip block) block b clip K.Known (said (p.list size clip block b).answer.answer) (p.list size clip block b).answer.next (p.list size clip block b).left

-- ---- programs that keep what the entry points promise
pub record Keeps (p : Programs) : Type 0 where
  pub read_says : (k : Kind) (bytes : List ℕ) (n : ℕ) (before : Flat) → ReadSays k bytes n before (p.read k bytes n before).answer
  pub read_leaves : (k : Kind) (bytes : List ℕ) (n : ℕ) (before : Flat) → ReadLeaves k bytes n before (p.read k bytes n before).left
  pub decode_says : (k : Kind) (bytes : List ℕ) (n : ℕ) (reference store : List ℕ) → DecodeSays k bytes n reference store (p.decode k bytes n reference store).answer
  pub decode_leaves : (k : Kind) (bytes : List ℕ) (n : ℕ) (reference store : List ℕ) → DecodeLeaves k bytes n reference store (p.decode k bytes n reference store).left
  pub write_says : (k : Kind) (d : Flat) (out : List ℕ) → WriteSays k d out (p.write k d out).answer
  pub write_leaves : (k : Kind) (d : Flat) (out : List ℕ) → WriteLeaves k d out (p.write k d out).left
  pub check_is : (size : Size) (block : List ℕ) → told_checked (p.check size block) ≡ check_of size block
  pub judge_is : (size : Size) (standard : Standard) (clip : ℕ) (block : List ℕ) → told_checked (p.judge size standard clip block) ≡ judge_of size standard clip block
  pub open_receiver_is : (clip : ℕ) (kind : Kind) → A.told_opened (p.open_receiver clip kind) ≡ R.opened_receiver clip kind
  pub receive_does : (r : Receiver) (block : List ℕ) (b : Buffers) → ReceiveDoes r block b (p.receive r block b).answer (p.receive r block b).left
  pub open_sender_is : (clip : ℕ) (kind : Kind) → S.told_opened (p.open_sender clip kind) ≡ S.opened_sender clip kind
  pub send_does : (s : Sender) (d : Flat) (b : S.Buffers) → SendDoes s d b (p.send s d b).answer (p.send s d b).left
  pub list_is : (size : Size) (clip : Clip) (block : List ℕ) (b : Buffers) → came (p.list size clip block b).answer (p.list size clip block b).left ≡ listed size clip block b

abbrev pub PromisesMeet : Type 0
PromisesMeet = (p : Programs) → Keeps p → Demand1 p
