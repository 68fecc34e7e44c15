-- What `receive` promises, and what is known on the way: of a block that passed the checks, and of what a last part comes to. Assumes nothing.
use Rattle.std.specs.Prelude.{ℕ, ◌+◌, ◌*◌, ◌≤◌, ◌<◌, ◌≡◌, List, length}
use Rattle.size.specs.Size.{store_length}
use Rattle.coding.specs.declared.Kind.{Kind}
use Rattle.coding.specs.Coding.{Coding}
use Rattle.coding.specs.Kind.{kind_size, coding_of}
use Rattle.vault.specs.declared.Header.{Header}
use Rattle.vault.specs.Block.{pictures}
use Rattle.standing.specs.Stores.{Stores}
use Rattle.standing.specs.declared.Receiver.{Receiver}
use Rattle.standing.specs.declared.Received.{Received}
use Rattle.standing.specs.Answered.{reply, told_received}
use Rattle.standing.specs.Receive.{Event, Buffers, outcome, answer_of, advance, stored_by, step}

-- what `receive` promises of a call: what it gives back and leaves in the buffers
abbrev pub ReceiveDoes : Receiver → List ℕ → Buffers → Received → Buffers → Type 0
ReceiveDoes r block b gave left = outcome gave left ≡ step coding_of r block b

-- the header of a good block, and two stores of their named length
pub record Fitting (kind : Kind) (header : Header) (first second : List ℕ) : Type 0 where
  pub picture_is : header.picture < pictures
  pub part_is : header.part ≤ 65
  pub used_is : header.used ≤ 4000
  pub first_long : length first ≡ store_length (kind_size kind)
  pub second_long : length second ≡ store_length (kind_size kind)

-- a good block of the clip, and buffers of their named lengths: the part has its room
pub record Ready (kind : Kind) (header : Header) (block collection first second : List ℕ) : Type 0 where
  pub block_long : length block ≡ 512
  pub room : 500 * header.part + 500 ≤ length collection
  pub fitting : Fitting kind header first second

module _ {D : Type 0} (coding : Kind → Coding D) where
  -- what a last part gives back and leaves in the stores
  pub record Settles (r : Receiver) (s : Stores) (e : Event D) (x : Received) (t : Stores) : Type 0 where
    pub gave : told_received x ≡ reply (answer_of coding r e) (advance coding r e)
    pub left : t ≡ stored_by coding r s e
