-- A list of blocks gone through, block after block: what the functions on the way ask for and leave. Assumes nothing.
use Rattle.std.specs.Prelude.{◌≡◌, Bool, true, false, Option, Some, None, Result, List, [], ◌∷◌, ◌++◌, ℕ, ◌+◌, ◌*◌, ◌/◌, ◌%◌, ◌≤◌, ◌<◌, eqb, length, drop}
use Rattle.laws.specs.Choice.{pick, opposite, one_of}
use Rattle.refusals.specs.declared.Refusal.{Refusal}
use Rattle.refusals.specs.Told.{accepted}
use Rattle.size.specs.declared.Size.{Size}
use Rattle.size.specs.Size.{store_length, collection_length}
use Rattle.coding.specs.declared.Kind.{Kind}
use Rattle.coding.specs.Kind.{kind_size, coding_of}
use Rattle.vault.specs.Block.{pictures}
use Rattle.vault.specs.Renewed.{renewed_block}
use Rattle.standing.specs.declared.Receiver.{Receiver}
use Rattle.standing.specs.declared.Received.{Received}
use Rattle.standing.specs.Answered.{Said, said}
use Rattle.standing.specs.Answered as A
use Rattle.standing.specs.Receive.{Buffers}
use Rattle.standing.specs.Run.{World, answers}
use Rattle.salvaging.specs.Kept.{kept_numbers}
use Rattle.salvaging.specs.Clip.{listed, blank_buffers}
use Rattle.salvaging.specs.Step.{still_known, asked_by, Collects}
use Rattle.salvaging.specs.Salvage.{lengths_named, told_salvaged, salvage_by, salvage_end}
use Rattle.salvaging.specs.declared.Fate.{Fate}
use Rattle.salvaging.specs.declared.Salvaged.{Salvaged}

-- ---- what a receiver answers to the blocks of a list from a byte on
abbrev pub world_of : Receiver → Buffers → World
world_of r b = record { receiver = r; lent = b }

abbrev pub answers_from : Receiver → Buffers → List ℕ → ℕ → List Said
answers_from r b list from = answers coding_of (world_of r b) (listed (drop from list))

-- a byte where a block of the list begins, or its end
pub record InList (list : List ℕ) (at : ℕ) : Type 0 where
  pub whole : length list % 512 ≡ 0
  pub begins : at % 512 ≡ 0
  pub inside : at ≤ length list

-- ---- whether any picture is kept
abbrev pub finishes_one : Said → Bool
finishes_one (A.picture n tick) = true
finishes_one (A.taken n part) = false
finishes_one (A.old n part) = false
finishes_one A.lost = false
finishes_one (A.refused numbers) = false

abbrev pub any_kept : List Said → Bool
any_kept answered = opposite (eqb (length (kept_numbers answered)) 0)

-- ---- a picture's fate
abbrev pub found_fate : Option ℕ → Option Fate → Said → List Said → Option Fate
found_fate None fate answer rest = still_known fate answer
found_fate (Some n) fate answer rest = Some (record { picture = n; kept = one_of (kept_numbers rest) n })

-- once a block was answered so, and these answers are to come
abbrev pub fate_after : Option Fate → Said → List Said → Option Fate
fate_after fate answer rest = found_fate (asked_by fate answer) fate answer rest

-- a second set of buffers, of the first one's lengths
pub record SameLengths (b ahead : Buffers) : Type 0 where
  pub collection : length ahead.collection ≡ length b.collection
  pub first : length ahead.both.first ≡ length b.both.first
  pub second : length ahead.both.second ≡ length b.both.second

pub record SettleRoom (received : Received) (list : List ℕ) (from : ℕ) (b ahead : Buffers) : Type 0 where
  pub place : InList list from
  pub same : SameLengths b ahead
  -- a block that is taken is the first part of its picture, or a next one
  pub collects : (n part : ℕ) → said received.answer ≡ A.taken n part → Collects n received.next.progress

-- ---- a block that is written
abbrev pub written_by : Bool → ℕ → ℕ → List ℕ → List (List ℕ)
written_by goes clip picture block = pick goes (renewed_block clip picture block ∷ []) []

pub record WriteRoom (goes : Bool) (picture : ℕ) (block out : List ℕ) (written : ℕ) : Type 0 where
  pub block_long : length block ≡ 512
  pub numbered : goes ≡ true → picture < pictures
  pub room : 512 * (written + 1) ≤ length out

-- ---- all blocks
pub record RewriteRoom (r : Receiver) (list out log : List ℕ) (b ahead : Buffers) : Type 0 where
  pub whole : length list % 512 ≡ 0
  pub out_room : length out ≡ length list
  pub log_room : length log ≡ 10 * (length list / 512)
  pub same : SameLengths b ahead

-- what is answered and left, where these are a receiver's answers
abbrev pub RewriteDoes : ℕ → List ℕ → List Said → List ℕ → List ℕ → Result Salvaged Refusal → List ℕ → List ℕ → Type 0
RewriteDoes clip list answered out log answer out' log' =
    record { answer = told_salvaged answer; out = out'; log = log' } ≡ salvage_end out log (accepted (salvage_by clip (listed list) answered))

-- ---- scratch
-- the buffers of two receivers, as zeros in the kind's lengths, and buffers of the named lengths
pub record SalvageRoom (kind : Kind) (list out log : List ℕ) (b ahead : Buffers) : Type 0 where
  pub named : lengths_named (length list) (length out) (length log) ≡ true
  pub blank : b ≡ blank_buffers (kind_size kind)
  pub blank_ahead : ahead ≡ blank_buffers (kind_size kind)

-- arrays of these lengths have room for them
pub record BuffersIn (collection store : ℕ) (size : Size) : Type 0 where
  pub collection_room : collection_length size ≤ collection
  pub store_room : store_length size ≤ store
