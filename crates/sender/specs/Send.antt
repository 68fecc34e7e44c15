-- Document 01: "The sender starts at picture 0, numbers on by one, writes a picture's blocks into 8,704 or 33,792 bytes (the rest untouched), and keeps its store by the
-- rules above, in two lent ones used as the receiver's are. Picture 0 must be a refresh." Assumes nothing.
use Rattle.std.specs.Prelude.{ℕ, ◌+◌, ◌*◌, ◌≡◌, Bool, List, ◌++◌, eqb, leb, ltb, length, drop, Result, Ok, Err}
use Rattle.std.specs.Borrow.{Bor}
use Rattle.laws.specs.Choice.{pick, both, either, opposite}
use Rattle.refusals.specs.declared.Refusal.{Refusal}
use Rattle.refusals.specs.Told.{numbers_of, Told, accepted, refused_by, refused}
use Rattle.size.specs.declared.Size.{Size}
use Rattle.size.specs.Size.{limit, blocks_length}
use Rattle.coding.specs.declared.Kind.{Kind}
use Rattle.coding.specs.Coding.{Coding}
use Rattle.coding.specs.Kind.{kind_size, kind_standard}
use Rattle.coding.specs.Described.{bytes_in}
use Rattle.vault.specs.Block.{pictures}
use Rattle.vault.specs.Parts.{part_count, blocks_of}
use Rattle.standing.specs.declared.Holder.TheVariants.{Neither}
use Rattle.standing.specs.Stores.{Stores, stores, stores_sized, goes_into, reference, stores_with, shown_store, HandsBack}
use Rattle.sender.specs.declared.Sender.{Sender}
use Rattle.sender.specs.declared.Sent.{Sent}

-- ---- opening. Refusal 22: "opening with clip 0"
abbrev pub fresh_sender : ℕ → Kind → Sender
fresh_sender clip kind = record { clip = clip; kind = kind; picture = 0; holder = Neither }

abbrev pub opened_sender : ℕ → Kind → Told Sender
opened_sender clip kind = pick (eqb clip 0) (refused 22 0) (accepted (fresh_sender clip kind))

-- a sender, or the refusal's number and place
abbrev pub told_opened : Result Sender Refusal → Told Sender
told_opened (Ok sender) = accepted sender
told_opened (Err why) = refused_by (numbers_of why)

-- ---- the lent buffers but the description
pub record Buffers : Type 0 where
  pub out : List ℕ
  pub both : Stores

abbrev pub buffers : List ℕ → List ℕ → List ℕ → Buffers
buffers out first second = record { out = out; both = stores first second }

abbrev pub lent_lengths : Size → Buffers → Bool
lent_lengths size b = both (eqb (length b.out) (blocks_length size)) (stores_sized size (length b.both.first) (length b.both.second))

-- ---- what a description comes to
-- the refusals by their numbers; their place is 0
pub data Judgement : Type 0 where
  sends : Judgement
  refuses : ℕ → Judgement

-- how many blocks were written, or the refusal's number and place
abbrev pub told_answer : Result ℕ Refusal → Told ℕ
told_answer (Ok n) = accepted n
told_answer (Err why) = refused_by (numbers_of why)

-- with the state that a call gives back
pub record Reply : Type 0 where
  pub answer : Told ℕ
  pub next : Sender

abbrev pub reply : Told ℕ → Sender → Reply
reply answer next = record { answer = answer; next = next }

abbrev pub told_sent : Sent → Reply
told_sent x = reply (told_answer x.answer) x.next

pub record Outcome : Type 0 where
  pub gave : Reply
  pub left : Buffers

-- of what the code gives back and leaves
abbrev pub outcome : Sent → Buffers → Outcome
outcome gave left = record { gave = told_sent gave; left = left }

-- "numbers on by one"
abbrev pub next_sender : Sender → Sender
next_sender s = record { clip = s.clip; kind = s.kind; picture = s.picture + 1; holder = goes_into s.holder }

module _ {D : Type 0} (coding : Kind → Coding D) where
  -- "Sender: 1, 34, 31, 33, 32."
  unfoldable pub judge : Sender → D → Buffers → Judgement
  judge s d b =
      let c = coding s.kind in
      -- 1: "a lent buffer hasn't its named length"
      pick (both (c.named d) (lent_lengths (kind_size s.kind) b))
      -- document 02, T-08: "34 at the new limit"
      (pick (ltb s.picture pictures)
      -- 31: "invalid description, or one of another format than opened"
      (pick (c.valid d)
      -- 33: "picture 0 not a refresh"
      (pick (either (opposite (eqb s.picture 0)) (c.refresh d))
      -- 32: "written picture above the limit"
      (pick (leb (length (c.written d)) (limit (kind_size s.kind))) sends (refuses 32))
      (refuses 33)) (refuses 31)) (refuses 34)) (refuses 1)

  -- the blocks of the described picture, one after another
  unfoldable pub blocks_sent : Sender → D → List ℕ
  blocks_sent s d =
      let c = coding s.kind in
      blocks_of (kind_standard s.kind) s.clip s.picture (c.refresh d) (bytes_in (c.written d)) (length (c.written d))

  abbrev pub count_sent : Sender → D → ℕ
  count_sent s d = part_count (length ((coding s.kind).written d))

  -- "A refusal changes no buffer and no state"
  unfoldable pub came_to : Sender → D → Buffers → Judgement → Outcome
  came_to s d b sends = record {
    gave = reply (accepted (count_sent s d)) (next_sender s);
    left = record {
      out = blocks_sent s d ++ drop (512 * count_sent s d) b.out;
      both = stores_with s.holder ((coding s.kind).render d (reference s.holder b.both)) b.both;
    };
  }
  came_to s d b (refuses n) = record { gave = reply (refused n 0) s; left = b }

  unfoldable pub step : Sender → D → Buffers → Outcome
  step s d b = came_to s d b (judge s d b)

-- ---- nothing of an answer is lost by what it is told as
abbrev pub OpenedToldOnce : Type 0
OpenedToldOnce = (a b : Result Sender Refusal) → told_opened a ≡ told_opened b → a ≡ b

abbrev pub AnswerToldOnce : Type 0
AnswerToldOnce = (a b : Result ℕ Refusal) → told_answer a ≡ told_answer b → a ≡ b

abbrev pub SentToldOnce : Type 0
SentToldOnce = (a b : Sent) → told_sent a ≡ told_sent b → a ≡ b

-- ---- the store of the last picture sent
abbrev pub shown_by : Sender → Stores → List ℕ
shown_by s both = shown_store (kind_size s.kind) s.holder both

-- what `show` promises: the part that it hands back of the two lent stores; its bytes are `shown_by`
abbrev pub ShowHands : Sender → Bor (List ℕ) → Bor (List ℕ) → Bor (List ℕ) → Type 0
ShowHands s first second part = HandsBack (kind_size s.kind) s.holder first second part
