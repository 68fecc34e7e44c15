-- Whatever keeps the promises of the entry points meets demand 1: each promise is an equation with a definition whose verdict is the first rule's that refuses. Assumes nothing.
use Prim.Native.Nat.{ℕ}
use mathlib.Core.Path.{◌≡◌, refl, sym, ap, subst, ◌∙◌}
use mathlib.Core.List.{List}
use lib.Dec.{eqb}
use lib.ListN.{length}
use Rattle.refusals.specs.Told.{Numbers, Told, accepted, refused_by, verdict_on, found_or}
use Rattle.refusals.proofs.Told.{told_apart}
use Rattle.bits.specs.Bits.{Bit}
use Rattle.bits.specs.Output.{output_left}
use Rattle.coding.specs.Kind.{coding_of}
use Rattle.coding.specs.Described.{read_of, write_of}
use Rattle.vault.specs.Block.{header_of}
use Rattle.standing.specs.Receive.{Outcome, fresh_receiver}
use Rattle.decoder.specs.Decoded.{decoded}
use Rattle.listing.specs.Listed.{Came}
use Rattle.sender.specs.declared.Sender.{Sender}
use Rattle.sender.specs.Send as S
use Rattle.listing.specs.declared.Clip.TheVariants as K
use Rattle.demand1.specs.Order.{Verdict, first_verdict, Refuses}
use Rattle.demand1.specs.Rules.{read_rules, decode_rules, send_rules, check_rules, judge_rules}
use Rattle.demand1.specs.Demand1.{BlockRefuses, receiver_of, PromisesMeet}
use Rattle.demand1.proofs.Pictures.{reader_due, decoder_due, writer_due}
use Rattle.demand1.proofs.Blocks.{opening_due, value_verdict, check_is, judge_is, step_refuses, listed_refuses, sent_refuses}

-- what is found or was there before
kept_before : {A : Type 0} (before : A) (x : Told A) (numbers : Numbers) → verdict_on x ≡ refused_by numbers → found_or before x ≡ before
kept_before before (accepted a) numbers h = absurd (told_apart h)
kept_before before (refused_by others) numbers h = refl

-- an answer that is the verdict of what is found, and buffers that hold it or what they held
found_refuses : {A : Type 0} (rules : List Verdict) (verdict : Verdict) (before left : A) (x : Told A) → verdict_on x ≡ first_verdict rules → verdict ≡ verdict_on x → left ≡ found_or before x
    → Refuses rules verdict before left
found_refuses rules verdict before left x due says output_left = record { due = says ∙ due; unchanged = λ numbers h. output_left ∙ kept_before before x numbers (sym says ∙ h) }

-- an output that a refusal left
untouched : (out : List ℕ) (bits : List Bit) (x : Told ℕ) (numbers : Numbers) → verdict_on x ≡ refused_by numbers → output_left out bits x ≡ out
unfolding output_left
untouched out bits (accepted m) numbers h = absurd (told_apart h)
untouched out bits (refused_by others) numbers h = refl

pub promises_meet : PromisesMeet
promises_meet p keeps = record {
  reads = λ k bytes n before.
      found_refuses (read_rules k bytes n before) _ before _ (read_of k bytes n before) (reader_due k bytes n before) (keeps.read_says k bytes n before) (keeps.read_leaves k bytes n before);
  decodes = λ k bytes n reference store.
      found_refuses (decode_rules k bytes n reference store) _ store _ (decoded k bytes n reference (length store)) (decoder_due k bytes n reference store)
      (keeps.decode_says k bytes n reference store) (keeps.decode_leaves k bytes n reference store);
  writes = λ k d out. record {
    due = ap verdict_on (keeps.write_says k d out) ∙ writer_due k d (length out);
    unchanged = λ numbers h. keeps.write_leaves k d out ∙ untouched out ((coding_of k).written d) (write_of k d (length out)) numbers (sym (ap verdict_on (keeps.write_says k d out)) ∙ h);
  };
  checks = λ size block. ap verdict_on (keeps.check_is size block ∙ check_is size block) ∙ value_verdict (header_of block) (first_verdict (check_rules size block));
  judges = λ size standard clip block. ap verdict_on (keeps.judge_is size standard clip block ∙ judge_is size standard clip block) ∙ value_verdict (header_of block) (first_verdict (judge_rules size standard clip block));
  opens_receiver = λ clip kind. ap verdict_on (keeps.open_receiver_is clip kind) ∙ opening_due (eqb clip 0) (fresh_receiver clip kind);
  receives = λ r block b.
      subst (λ (x : Outcome). BlockRefuses r block b r (λ s. s) x.gave.answer x.gave.next x.left) (sym (keeps.receive_does r block b)) (step_refuses r block b);
  opens_sender = λ clip kind. ap verdict_on (keeps.open_sender_is clip kind) ∙ opening_due (eqb clip 0) (S.fresh_sender clip kind);
  sends = λ s d b.
      subst (λ (x : S.Outcome). Refuses {W = Sender × S.Buffers} (send_rules s d b) (verdict_on x.gave.answer) (s, b) (x.gave.next, x.left)) (sym (keeps.send_does s d b)) (sent_refuses s d b);
  lists = λ size clip block b.
      subst (λ (x : Came). BlockRefuses (receiver_of size clip block) block b clip K.Known x.answer x.next x.left) (sym (keeps.list_is size clip block b)) (listed_refuses size clip block b);
}
