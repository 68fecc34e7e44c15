-- A picture's blocks: each is judged good with its own header, and their payloads, put where a receiver collects them, are the picture's bytes. Assumes nothing.
use Rattle.std.specs.Prelude.{◌≡◌, Bool, List, ℕ, ◌+◌, ◌*◌, ◌/◌, ◌%◌, ◌^◌, ◌≤◌, ◌<◌, length, get_or, take}
use Rattle.laws.specs.Row.{row}
use Rattle.size.specs.declared.Size.{Size}
use Rattle.size.specs.Size.{limit}
use Rattle.refusals.specs.Told.{accepted}
use Rattle.vault.specs.declared.Standard.{Standard}
use Rattle.vault.specs.Block.{pictures, unused, judge_of}
use Rattle.vault.specs.Parts.{part_count, kept_byte, header_at, block_at}

-- a part of a picture within the size's limit
pub record Part (size : Size) (clip picture count part : ℕ) : Type 0 where
  pub clip_is : 1 ≤ clip
  pub picture_is : picture < pictures
  pub count_is : count ≤ limit size
  pub part_is : part < part_count count

abbrev pub BlocksJudged : Type 0
BlocksJudged = (standard : Standard) (clip picture : ℕ) (refresh : Bool) (bytes : List ℕ) (count : ℕ) (size : Size) (part : ℕ) → Part size clip picture count part
    → judge_of size standard clip (block_at standard clip picture refresh bytes count part) ≡ accepted (header_at standard clip picture refresh count part)

-- ---- what a receiver has collected
-- the payloads of the first n parts stand at the start of a collection
pub record Collected (bytes : List ℕ) (count n : ℕ) (collection : List ℕ) : Type 0 where
  pub first : take (500 * n) collection ≡ row (500 * n) (kept_byte bytes count)

-- all parts of a picture whose last started byte is filled with zeros: its bytes
abbrev pub AllCollected : Type 0
AllCollected = (bytes : List ℕ) (count : ℕ) (collection : List ℕ) → count ≤ 8 * length bytes → 500 * part_count count ≤ length collection
    → ((i : ℕ) → i < (count + 7) / 8 → get_or bytes i 0 % 2 ^ unused count i ≡ 0)
    → Collected bytes count (part_count count) collection → take ((count + 7) / 8) collection ≡ take ((count + 7) / 8) bytes
