-- Document 02, T-08: "Stored clips keep their meaning .. A reader from before this request refuses any later block by 22 and never shows it under a shortened number." A
-- receiver from before it judges a block by the rules of that time, and is otherwise as it is now. Assumes nothing.
use Rattle.std.specs.Prelude.{ℕ, ◌≤◌, ◌<◌, ◌≡◌, true, false, List}
use Rattle.laws.specs.Choice.{pick}
use Rattle.refusals.specs.Told.{untabled, Told, accepted, refused}
use Rattle.coding.specs.declared.Kind.{Kind}
use Rattle.coding.specs.Coding.{Coding}
use Rattle.coding.specs.Kind.{kind_size, kind_standard}
use Rattle.vault.specs.declared.Standard.TheVariants.{H261}
use Rattle.vault.specs.declared.Header.{Header}
use Rattle.vault.specs.Block.{picture_of, marks_of, standard_bit, check_of}
use Rattle.vault.specs.Before.{pictures_before, judge_before}
use Rattle.standing.specs.declared.Receiver.{Receiver}
use Rattle.standing.specs.Answered.{reply}
use Rattle.standing.specs.Answered as A
use Rattle.standing.specs.Receive.{Buffers, lent_lengths, by_judgement, Outcome, came_to, step}

unfoldable pub judged_before : Receiver → List ℕ → Buffers → Told Header
judged_before r block b = pick (lent_lengths (kind_size r.kind) b) (judge_before (kind_size r.kind) r.clip block) (refused 1 0)

module _ {D : Type 0} (coding : Kind → Coding D) where
  unfoldable pub step_before : Receiver → List ℕ → Buffers → Outcome
  step_before r block b = came_to coding r block b (by_judgement coding (judged_before r block b) r block b.collection)

-- below 4,096 each block without H.263's mark comes to what it came to before in an H.261 clip, whatever bytes it holds
abbrev pub EarlierReceivedAlike : Type 1
EarlierReceivedAlike = (D : Type 0) (coding : Kind → Coding D) (r : Receiver) (block : List ℕ) (b : Buffers) → kind_standard r.kind ≡ H261 → picture_of block < pictures_before
    → standard_bit (marks_of block) ≡ false → step coding r block b ≡ step_before coding r block b

-- a later one that is good now was refused by 22, and nothing changed by it: no state and no buffer, so that what was shown stayed
abbrev pub LaterIgnoredBefore : Type 1
LaterIgnoredBefore = (D : Type 0) (coding : Kind → Coding D) (r : Receiver) (block : List ℕ) (b : Buffers) (header : Header) → lent_lengths (kind_size r.kind) b ≡ true
    → check_of (kind_size r.kind) block ≡ accepted header → pictures_before ≤ header.picture
    → step_before coding r block b ≡ record { gave = reply (A.refused (untabled 22 0)) r; left = b }
