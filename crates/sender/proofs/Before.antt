-- A sender from before document 02's T-08 and one of now: below 4,096 neither limit refuses, and the blocks are the same. Assumes nothing.
use Prim.Native.Nat.{ℕ, ◌*◌, ◌<◌}
use mathlib.Core.Path.{◌≡◌, refl, ap, ◌∙◌}
use mathlib.Core.List.{List, ◌++◌}
use native.Mathlib.Omega.{arith}
use borrow.Author.Tests.{lt-ltb}
use lib.ListN.{length, drop}
use Rattle.refusals.specs.Told.{accepted}
use Rattle.coding.specs.declared.Kind.{Kind}
use Rattle.coding.specs.Coding.{Coding}
use Rattle.coding.specs.Described.{bytes_in}
use Rattle.coding.specs.Kind.{kind_standard}
use Rattle.vault.specs.declared.Standard.{Standard}
use Rattle.vault.specs.declared.Standard.TheVariants.{H261}
use Rattle.vault.specs.Block.{pictures}
use Rattle.vault.specs.Parts.{blocks_of}
use Rattle.vault.specs.Before.{pictures_before}
use Rattle.vault.proofs.Before.{earlier_made_alike}
use Rattle.standing.specs.Stores.{reference, stores_with}
use Rattle.sender.specs.declared.Sender.{Sender}
use Rattle.sender.specs.Send.{Buffers, Judgement, sends, refuses, Outcome, reply, next_sender, count_sent, judge, blocks_sent, came_to, step}
use Rattle.sender.specs.Before.{judge_before, blocks_sent_before, came_to_before, step_before, EarlierSentAlike}

module _ {D : Type 0} (coding : Kind → Coding D) (s : Sender) (d : D) (b : Buffers) (h : kind_standard s.kind ≡ H261) (l : s.picture < pictures_before) where
  judged_alike : judge coding s d b ≡ judge_before coding s d b
  unfolding judge judge_before
  judged_alike = rw (lt-ltb s.picture pictures (omega arith), lt-ltb s.picture pictures_before l)

  blocks_alike : blocks_sent coding s d ≡ blocks_sent_before coding s d
  unfolding blocks_sent blocks_sent_before
  blocks_alike =
      let c = coding s.kind in
      ap (λ (t : Standard). blocks_of t s.clip s.picture (c.refresh d) (bytes_in (c.written d)) (length (c.written d))) h
      ∙ earlier_made_alike s.clip s.picture (c.refresh d) (bytes_in (c.written d)) (length (c.written d)) l

  came_alike : (j : Judgement) → came_to coding s d b j ≡ came_to_before coding s d b j
  unfolding came_to came_to_before
  came_alike sends = λ i. record {
    gave = reply (accepted (count_sent coding s d)) (next_sender s);
    left = record {
      out = blocks_alike i ++ drop (512 * count_sent coding s d) b.out;
      both = stores_with s.holder ((coding s.kind).render d (reference s.holder b.both)) b.both;
    };
  }
  came_alike (refuses n) = refl

pub earlier_sent_alike : EarlierSentAlike
unfolding step step_before
earlier_sent_alike D coding s d b h l = ap (came_to coding s d b) (judged_alike coding s d b h l) ∙ came_alike coding s d b h l (judge_before coding s d b)
