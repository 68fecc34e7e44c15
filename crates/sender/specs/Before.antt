-- Document 02, T-08: "a sender below 4,096 pictures writes the same bytes as before." A sender from before it had room for 4,096 pictures and made
-- their blocks by the rules of that time; it was otherwise as it is now. Assumes nothing.
use Rattle.std.specs.Prelude.{ℕ, ◌*◌, ◌<◌, ◌≡◌, List, ◌++◌, eqb, leb, ltb, length, drop}
use Rattle.laws.specs.Choice.{pick, both, either, opposite}
use Rattle.refusals.specs.Told.{accepted}
use Rattle.size.specs.Size.{limit}
use Rattle.coding.specs.declared.Kind.{Kind}
use Rattle.coding.specs.Coding.{Coding}
use Rattle.coding.specs.Kind.{kind_size, kind_standard}
use Rattle.coding.specs.Described.{bytes_in}
use Rattle.vault.specs.declared.Standard.TheVariants.{H261}
use Rattle.vault.specs.Before.{pictures_before, blocks_before}
use Rattle.standing.specs.Stores.{reference, stores_with}
use Rattle.sender.specs.declared.Sender.{Sender}
use Rattle.sender.specs.Send.{Buffers, lent_lengths, Judgement, sends, refuses, Outcome, reply, next_sender, count_sent, came_to, step}

module _ {D : Type 0} (coding : Kind → Coding D) where
  unfoldable pub judge_before : Sender → D → Buffers → Judgement
  judge_before s d b =
      let c = coding s.kind in
      pick (both (c.named d) (lent_lengths (kind_size s.kind) b))
      (pick (ltb s.picture pictures_before)
      (pick (c.valid d)
      (pick (either (opposite (eqb s.picture 0)) (c.refresh d))
      (pick (leb (length (c.written d)) (limit (kind_size s.kind))) sends (refuses 32))
      (refuses 33)) (refuses 31)) (refuses 34)) (refuses 1)

  unfoldable pub blocks_sent_before : Sender → D → List ℕ
  blocks_sent_before s d =
      let c = coding s.kind in
      blocks_before s.clip s.picture (c.refresh d) (bytes_in (c.written d)) (length (c.written d))

  unfoldable pub came_to_before : Sender → D → Buffers → Judgement → Outcome
  came_to_before s d b sends = record {
    gave = reply (accepted (count_sent coding s d)) (next_sender s);
    left = record {
      out = blocks_sent_before s d ++ drop (512 * count_sent coding s d) b.out;
      both = stores_with s.holder ((coding s.kind).render d (reference s.holder b.both)) b.both;
    };
  }
  came_to_before s d b (refuses n) = came_to coding s d b (refuses n)

  unfoldable pub step_before : Sender → D → Buffers → Outcome
  step_before s d b = came_to_before s d b (judge_before s d b)

-- what a call answers, writes and keeps for an H.261 clip is what it did before
abbrev pub EarlierSentAlike : Type 1
EarlierSentAlike = (D : Type 0) (coding : Kind → Coding D) (s : Sender) (d : D) (b : Buffers) → kind_standard s.kind ≡ H261 → s.picture < pictures_before → step coding s d b ≡ step_before coding s d b
