-- What `send` promises, and what is known on the way: of a call that passed its first judgements, and of one that is judged whole. Assumes nothing.
use Rattle.std.specs.Prelude.{ℕ, ◌*◌, ◌≤◌, ◌<◌, ◌≡◌, Bool, true, List, eqb, length}
use Rattle.laws.specs.Choice.{both, either, opposite}
use Rattle.size.specs.Size.{store_length}
use Rattle.coding.specs.declared.Kind.{Kind}
use Rattle.coding.specs.Coding.{Coding}
use Rattle.layout.specs.Flat.{Flat}
use Rattle.coding.specs.Kind.{kind_size, coding_of}
use Rattle.coding.specs.Described.{bytes_in}
use Rattle.vault.specs.Block.{pictures}
use Rattle.vault.specs.Parts.{part_count}
use Rattle.sender.specs.declared.Sender.{Sender}
use Rattle.sender.specs.declared.Sent.{Sent}
use Rattle.sender.specs.Send.{Buffers, lent_lengths, outcome, step}

-- what `send` promises of a call: what it gives back and leaves in the buffers
abbrev pub SendDoes : Sender → Flat → Buffers → Sent → Buffers → Type 0
SendDoes s d b gave left = outcome gave left ≡ step coding_of s d b

module _ {D : Type 0} (coding : Kind → Coding D) where
  -- judged by 1, 34, 31 and 33: only 32 is left
  pub record Passed (s : Sender) (refreshed : Bool) (d : D) (b : Buffers) : Type 0 where
    pub named_is : both ((coding s.kind).named d) (lent_lengths (kind_size s.kind) b) ≡ true
    pub counted : s.picture < pictures
    pub valid_is : (coding s.kind).valid d ≡ true
    pub refresh_is : refreshed ≡ (coding s.kind).refresh d
    pub begins : either (opposite (eqb s.picture 0)) refreshed ≡ true

  -- judged whole, and its bits written
  pub record Encoded (s : Sender) (refreshed : Bool) (d : D) (b : Buffers) (bytes : List ℕ) (count : ℕ) : Type 0 where
    pub counted : s.picture < pictures
    pub valid_is : (coding s.kind).valid d ≡ true
    pub refresh_is : refreshed ≡ (coding s.kind).refresh d
    pub count_is : count ≡ length ((coding s.kind).written d)
    pub bytes_are : bytes ≡ bytes_in ((coding s.kind).written d)
    pub short : count ≤ 262144
    pub held : count ≤ 8 * length bytes
    pub room : 512 * part_count count ≤ length b.out
    pub first_long : length b.both.first ≡ store_length (kind_size s.kind)
    pub second_long : length b.both.second ≡ store_length (kind_size s.kind)
