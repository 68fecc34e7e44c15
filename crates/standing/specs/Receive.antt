-- Document 01, "What the receiver does with each block", over any coding: what a block comes to (decide), the next state (advance), the lent buffers (collected, stored). Assumes nothing.
use Rattle.std.specs.Prelude.{ℕ, ◌+◌, ◌*◌, Bool, true, false, List, eqb, ltb, length}
use Rattle.laws.specs.Choice.{pick, both, either, opposite, alike}
use Rattle.refusals.specs.Told.{Numbers, untabled, Told, accepted, refused_by, refused}
use Rattle.size.specs.declared.Size.{Size}
use Rattle.size.specs.Size.{collection_length}
use Rattle.coding.specs.declared.Kind.{Kind}
use Rattle.coding.specs.Coding.{Coding}
use Rattle.coding.specs.Kind.{kind_size, kind_standard}
use Rattle.vault.specs.declared.Header.{Header}
use Rattle.vault.specs.Block.{judge_of}
use Rattle.vault.specs.Parts.{placed_payload}
use Rattle.ticks.specs.declared.Tick.{Tick}
use Rattle.ticks.specs.declared.Tick.TheVariants.{Exact}
use Rattle.ticks.specs.Tick.{first_tick, later_tick}
use Rattle.standing.specs.declared.Holder.{Holder}
use Rattle.standing.specs.declared.Holder.TheVariants.{Neither}
use Rattle.standing.specs.Stores.{Stores, stores, stores_sized, goes_into, any_finished, reference, stores_with}
use Rattle.standing.specs.declared.Place.{Place}
use Rattle.standing.specs.declared.Standing.{Standing}
use Rattle.standing.specs.declared.Progress.{Progress}
use Rattle.standing.specs.declared.Last.{Last}
use Rattle.standing.specs.declared.Receiver.{Receiver}
use Rattle.standing.specs.declared.Line.{Line}
use Rattle.standing.specs.declared.Line.TheVariants.{Earlier, Next, Anew, Otherwise}
use Rattle.standing.specs.declared.Received.{Received}
use Rattle.standing.specs.Answered.{Said, Reply, reply, told_received}
use Rattle.standing.specs.declared.Standing.TheVariants as S
use Rattle.standing.specs.Answered as A

abbrev pub place : ℕ → ℕ → Place
place picture part = record { picture = picture; part = part }

-- what a block changes, and what only a finished picture changes
abbrev pub progress : Place → Standing → Bool → Progress
progress wanted standing mark = record { wanted = wanted; standing = standing; mark = mark }

abbrev pub last_in : Holder → ℕ → Tick → Last
last_in holder picture tick = record { holder = holder; picture = picture; tick = tick }

-- before a first picture is finished, where its number and its tick mean nothing
abbrev pub none_finished : Last
none_finished = last_in Neither 0 (Exact 0)

-- ---- opening: "It wants a place (picture, part), at first (0, 0), and starts lost." Refusal 22: "opening with clip 0"
abbrev pub fresh_receiver : ℕ → Kind → Receiver
fresh_receiver clip kind = record { clip = clip; kind = kind; progress = progress (place 0 0) S.Lost false; last = none_finished }

abbrev pub opened_receiver : ℕ → Kind → Told Receiver
opened_receiver clip kind = pick (eqb clip 0) (refused 22 0) (accepted (fresh_receiver clip kind))

-- ---- the four lines
-- "Places compare by picture, then part."
abbrev pub earlier_place : Place → Place → Bool
earlier_place a b = either (ltb a.picture b.picture) (both (eqb a.picture b.picture) (ltb a.part b.part))

abbrev pub same_place : Place → Place → Bool
same_place a b = both (eqb a.picture b.picture) (eqb a.part b.part)

abbrev pub is_lost : Standing → Bool
is_lost S.Lost = true
is_lost S.Catching = false
is_lost (S.InStep k) = false

abbrev pub place_of : Header → Place
place_of header = place header.picture header.part

-- "First matching line"
unfoldable pub line_of : Progress → Header → Line
line_of p header =
    -- "1. Earlier than wanted"
    pick (earlier_place (place_of header) p.wanted) Earlier
    -- "2. Equal, and not lost"
    (pick (both (same_place (place_of header) p.wanted) (opposite (is_lost p.standing))) Next
    -- "3. Part 0 with refresh"; "4. Otherwise"
    (pick (both (eqb header.part 0) header.refresh) Anew Otherwise))

-- ---- what a block comes to. A refusal is its numbers; a finished picture is its header, which has its number and N (`count_of`), and its description
pub data Event (D : Type 0) : Type 0 where
  refusing : Numbers → Event D
  old : Header → Event D
  taken : Header → Standing → Event D
  lost : Event D
  failed : Header → Numbers → Event D
  finished : Header → D → Event D

-- N, by the last part: all parts before it have 4000 bits
abbrev pub count_of : Header → ℕ
count_of header = 4000 * header.part + header.used

-- the refresh mark of part 0 of what is collected
abbrev pub mark_of : Progress → Header → Bool
mark_of p header = pick (eqb header.part 0) header.refresh p.mark

-- the lent buffers but the block
pub record Buffers : Type 0 where
  pub collection : List ℕ
  pub both : Stores

abbrev pub buffers : List ℕ → List ℕ → List ℕ → Buffers
buffers collection first second = record { collection = collection; both = stores first second }

-- refusal 1: "a lent buffer hasn't its named length"
abbrev pub named_lengths : Size → ℕ → ℕ → ℕ → Bool
named_lengths size collection first second = both (eqb collection (collection_length size)) (stores_sized size first second)

abbrev pub lent_lengths : Size → Buffers → Bool
lent_lengths size b = named_lengths size (length b.collection) (length b.both.first) (length b.both.second)

-- "Blocks: 1, 21, 22, 23.", and then 5
unfoldable pub judged_block : Receiver → List ℕ → Buffers → Told Header
judged_block r block b = pick (lent_lengths (kind_size r.kind) b) (judge_of (kind_size r.kind) (kind_standard r.kind) r.clip block) (refused 1 0)

module _ {D : Type 0} (coding : Kind → Coding D) where
  -- "A last part is read at once". Refusal 24: "accepted picture, untrue refresh mark"
  unfoldable pub ended_picture : Receiver → Header → Told D → Event D
  ended_picture r header (accepted d) = pick (alike ((coding r.kind).refresh d) (mark_of r.progress header)) (finished header d) (failed header (untabled 24 0))
  ended_picture r header (refused_by numbers) = failed header numbers

  -- a block that is taken, into this collection, while the receiver stands so
  unfoldable pub took_of : Receiver → Header → Standing → List ℕ → Event D
  took_of r header standing collection =
      pick header.last (ended_picture r header ((coding r.kind).read collection (count_of header))) (taken header standing)

  unfoldable pub by_line : Line → Receiver → Header → List ℕ → List ℕ → Event D
  by_line Earlier r header block collection = old header
  by_line Next r header block collection = took_of r header r.progress.standing (placed_payload block header.part collection)
  -- "The receiver is catching until it finishes."
  by_line Anew r header block collection = took_of r header S.Catching (placed_payload block header.part collection)
  by_line Otherwise r header block collection = lost

  unfoldable pub by_judgement : Told Header → Receiver → List ℕ → List ℕ → Event D
  by_judgement (accepted header) r block collection = by_line (line_of r.progress header) r header block collection
  by_judgement (refused_by numbers) r block collection = refusing numbers

  unfoldable pub decide : Receiver → List ℕ → Buffers → Event D
  decide r block b = by_judgement (judged_block r block b) r block b.collection

-- ---- the next state
-- "wanted place kept"
abbrev pub lost_progress : Progress → Progress
lost_progress p = progress p.wanted S.Lost p.mark

-- "wants the next part"
abbrev pub taken_progress : Progress → Header → Standing → Progress
taken_progress p header standing = progress (place header.picture (header.part + 1)) standing (mark_of p header)

-- "both then want part 0 of the next"
abbrev pub ended_progress : Progress → Header → Standing → Progress
ended_progress p header standing = progress (place (header.picture + 1) 0) standing (mark_of p header)

-- no finished picture: only what a block changes is another
abbrev pub with_progress : Receiver → Progress → Receiver
with_progress r p = record { clip = r.clip; kind = r.kind; progress = p; last = r.last }

-- "refused means lost"
abbrev pub failed_receiver : Receiver → Header → Receiver
failed_receiver r header = with_progress r (ended_progress r.progress header S.Lost)

-- the tick of the picture of this number and TR, finished after the last one: first, next and last are of pictures finished since opening
unfoldable pub tick_in : ℕ → Last → ℕ → ℕ → Tick
tick_in modulus last picture tr =
    pick (any_finished last.holder) (later_tick modulus last.picture last.tick picture tr) (first_tick picture tr)

-- "accepted means in step at that picture"
abbrev pub finished_receiver : Receiver → Header → Tick → Receiver
finished_receiver r header tick = record {
  clip = r.clip;
  kind = r.kind;
  progress = ended_progress r.progress header (S.InStep header.picture);
  last = last_in (goes_into r.last.holder) header.picture tick;
}

abbrev pub finished_reply : Receiver → Header → Tick → Reply
finished_reply r header tick = reply (A.picture header.picture tick) (finished_receiver r header tick)

module _ {D : Type 0} (coding : Kind → Coding D) where
  -- a refused picture's TR counts for nothing: only here is a tick made
  abbrev pub finished_tick : Receiver → Header → D → Tick
  finished_tick r header d = tick_in (coding r.kind).modulus r.last header.picture ((coding r.kind).tr d)

  abbrev pub advance : Receiver → Event D → Receiver
  advance r (refusing numbers) = r
  advance r (old header) = r
  advance r (taken header standing) = with_progress r (taken_progress r.progress header standing)
  advance r lost = with_progress r (lost_progress r.progress)
  advance r (failed header numbers) = failed_receiver r header
  advance r (finished header d) = finished_receiver r header (finished_tick r header d)

  -- ---- the answer
  abbrev pub answer_of : Receiver → Event D → Said
  answer_of r (refusing numbers) = A.refused numbers
  answer_of r (old header) = A.old header.picture header.part
  answer_of r (taken header standing) = A.taken header.picture header.part
  answer_of r lost = A.lost
  answer_of r (failed header numbers) = A.refused numbers
  answer_of r (finished header d) = A.picture header.picture (finished_tick r header d)

module _ {D : Type 0} where
  -- ---- the lent buffers
  -- "Taken copies 500 payload bytes to 500 times part in the collection buffer"; "a dropped collection's bytes stay as they lie"
  abbrev pub collection_after : List ℕ → List ℕ → Event D → List ℕ
  collection_after block collection (refusing numbers) = collection
  collection_after block collection (old header) = collection
  collection_after block collection (taken header standing) = placed_payload block header.part collection
  collection_after block collection lost = collection
  collection_after block collection (failed header numbers) = placed_payload block header.part collection
  collection_after block collection (finished header d) = placed_payload block header.part collection

  -- "Old, taken and lost change no store"
  abbrev pub stored_by : (Kind → Coding D) → Receiver → Stores → Event D → Stores
  stored_by coding r s (refusing numbers) = s
  stored_by coding r s (old header) = s
  stored_by coding r s (taken header standing) = s
  stored_by coding r s lost = s
  stored_by coding r s (failed header numbers) = s
  stored_by coding r s (finished header d) = stores_with r.last.holder ((coding r.kind).render d (reference r.last.holder s)) s

-- ---- a call: what it gives back and leaves in the buffers
pub record Outcome : Type 0 where
  pub gave : Reply
  pub left : Buffers

-- of what the code gives back and leaves
abbrev pub outcome : Received → Buffers → Outcome
outcome gave left = record { gave = told_received gave; left = left }

module _ {D : Type 0} (coding : Kind → Coding D) where
  unfoldable pub came_to : Receiver → List ℕ → Buffers → Event D → Outcome
  came_to r block b e = record {
    gave = reply (answer_of coding r e) (advance coding r e);
    left = record { collection = collection_after block b.collection e; both = stored_by coding r b.both e };
  }

  unfoldable pub step : Receiver → List ℕ → Buffers → Outcome
  step r block b = came_to r block b (decide coding r block b)
