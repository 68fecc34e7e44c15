-- Document 02, T-09: "Fed to a fresh receiver in order, the new clip finishes every picture, with the samples the old receiver showed." Whatever the coding, if it obeys its laws and a picture is
-- exactly its bits. Assumes nothing.
use Rattle.std.specs.Prelude.{◌≡◌, true, List, [], ◌∷◌, ◌++◌, ℕ, ◌+◌, ◌≤◌, length}
use Rattle.bits.specs.Bits.{source}
use Rattle.coding.specs.declared.Kind.{Kind}
use Rattle.coding.specs.Coding.{Coding}
use Rattle.coding.specs.Kind.{kind_size, coding_of, AllLawful}
use Rattle.ticks.specs.declared.Tick.{Tick}
use Rattle.standing.specs.Answered.{Said}
use Rattle.standing.specs.Answered as A
use Rattle.standing.specs.Receive.{Buffers, fresh_receiver, lent_lengths, Outcome, step}
use Rattle.standing.specs.Run.{World, world_after, answers}
use Rattle.standing.specs.Shown.{shown_by}
use Rattle.salvaging.specs.Kept.{kept_numbers}
use Rattle.salvaging.specs.Clip.{fresh_world, answers_to}
use Rattle.salvaging.specs.Salvage.{salvage_from}
use Rattle.demand3.specs.Ticks.{EachExact}
use Rattle.salvaged.specs.Told.{numbers_from}

-- ---- document 01: "A picture is a lent slice and a count of N bits ..; the picture is exactly those bits." What is read depends on nothing else of a slice of this length
pub record ReadsBits {D : Type 0} (c : Coding D) : Type 0 where
  pub exactly : (a b : List ℕ) (n : ℕ) → length a ≡ length b → source a n ≡ source b n → c.read a n ≡ c.read b n

pub record AllReadBits {D : Type 0} (coding : Kind → Coding D) : Type 0 where
  pub each : (k : Kind) → ReadsBits (coding k)

-- ---- answers that finish every picture
-- from this part of picture n on: the next parts are taken in order, the last one finishes it, and so the next picture from part 0 on, to the end of one
pub data InTurn : ℕ → ℕ → List Said → Type 0 where
  all_finished : {n : ℕ} → InTurn n 0 []
  next_part : {n part : ℕ} {rest : List Said} → InTurn n (part + 1) rest → InTurn n part (A.taken n part ∷ rest)
  last_part : {n part : ℕ} {rest : List Said} (tick : Tick) → InTurn (n + 1) 0 rest → InTurn n part (A.picture n tick ∷ rest)

-- ---- "the samples the old receiver showed": of each picture that is finished, in order, the store that is shown right after its finishing block
abbrev pub shown_for : Said → List ℕ → List (List ℕ)
shown_for (A.picture n tick) store = store ∷ []
shown_for (A.old n part) store = []
shown_for (A.taken n part) store = []
shown_for A.lost store = []
shown_for (A.refused numbers) store = []

abbrev pub shown_after : Outcome → List (List ℕ)
shown_after x = shown_for x.gave.answer (shown_by x.gave x.left.both)

module _ {D : Type 0} (coding : Kind → Coding D) where
  unfoldable pub stores_shown : World → List (List ℕ) → List (List ℕ)
  stores_shown w [] = []
  stores_shown w (block ∷ blocks) = shown_after (step coding w.receiver block w.lent) ++ stores_shown (world_after coding w block) blocks

-- "a fresh receiver", with buffers of any contents
abbrev pub opened_world : ℕ → Kind → Buffers → World
opened_world clip kind lent = record { receiver = fresh_receiver clip kind; lent = lent }

-- ---- the new clip, fed in order
pub record ClipFinishes {D : Type 0} (coding : Kind → Coding D) (kind : Kind) (old new : ℕ) (blocks : List (List ℕ)) (lent : Buffers) : Type 0 where
  pub in_turn : InTurn 0 0 (answers coding (opened_world new kind lent) (salvage_from coding kind old new blocks).clip)
  pub numbers_are : kept_numbers (answers coding (opened_world new kind lent) (salvage_from coding kind old new blocks).clip) ≡ numbers_from (salvage_from coding kind old new blocks).pictures 0
  pub stores_are : stores_shown coding (opened_world new kind lent) (salvage_from coding kind old new blocks).clip ≡ stores_shown coding (fresh_world old kind) blocks
  -- "ticks in the new clip are exact"
  pub ticks_are : EachExact (answers coding (opened_world new kind lent) (salvage_from coding kind old new blocks).clip)

abbrev pub ClipFinished : {D : Type 0} → (Kind → Coding D) → Type 0
ClipFinished coding = (kind : Kind) (old new : ℕ) (blocks : List (List ℕ)) → 1 ≤ new → (lent : Buffers) → lent_lengths (kind_size kind) lent ≡ true → ClipFinishes coding kind old new blocks lent

abbrev pub ClipFinishedAlways : Type 1
ClipFinishedAlways = (D : Type 0) (coding : Kind → Coding D) → AllLawful coding → AllReadBits coding → ClipFinished coding

-- and so of ours
abbrev pub CodingsReadBits : Type 0
CodingsReadBits = AllReadBits coding_of

abbrev pub ClipFinishedMet : Type 0
ClipFinishedMet = ClipFinished coding_of

-- ---- what a fresh receiver answers doesn't depend on what its buffers hold
abbrev pub AnswersAlike : {D : Type 0} → (Kind → Coding D) → Type 0
AnswersAlike coding = (clip : ℕ) (kind : Kind) (lent : Buffers) → lent_lengths (kind_size kind) lent ≡ true → (blocks : List (List ℕ)) → answers coding (opened_world clip kind lent) blocks ≡ answers_to coding clip kind blocks

abbrev pub AnswersAlikeAlways : Type 1
AnswersAlikeAlways = (D : Type 0) (coding : Kind → Coding D) → AllLawful coding → AllReadBits coding → AnswersAlike coding
