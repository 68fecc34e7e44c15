-- A clip as it was sent: its pictures, each with its blocks and with the sender's store after it. What it is for a receiver to be right about it. Assumes nothing.
use Rattle.std.specs.Prelude.{◌≡◌, ℕ}
use mathlib.Core.List.{List, [], ◌∷◌, ◌++◌, Memᴰ}
use Rattle.std.proofs.Math.Option.{some}
use Rattle.std.proofs.Math.ListN.{get_elem?}
use Rattle.coding.specs.declared.Kind.{Kind}
use Rattle.standing.specs.Stores.{Stores}
use Rattle.sender.specs.declared.Sender.{Sender}
use Rattle.refusals.specs.Told.{Told, accepted, refused_by}
use Rattle.coding.specs.Coding.{Coding}
use Rattle.sender.specs.Send.{opened_sender, Outcome, shown_by}
use Rattle.sender.specs.Run.{Call, World, cut, call_outcome, world_after, clip_of}
use Rattle.standing.specs.declared.Receiver.{Receiver}
use Rattle.standing.specs.Answered.{Reply}
use Rattle.standing.specs.declared.Standing.{Standing}
use Rattle.standing.specs.declared.Standing.TheVariants as T
use Rattle.standing.specs.Receive as R
use Rattle.standing.specs.Run as W

-- ---- what was sent
-- a picture: what it was described as, its blocks, and the sender's store after it
pub record Picture (D : Type 0) : Type 0 where
  pub description : D
  pub blocks : List (List ℕ)
  pub store : List ℕ

module _ {D : Type 0} where
  -- the picture that a call sent: a refused call sends none
  abbrev pub sent_as : Told ℕ → Call D → Outcome → List (Picture D)
  sent_as (accepted n) call x =
      record { description = call.description; blocks = cut n x.left.out; store = shown_by x.gave.next x.left.both } ∷ []
  sent_as (refused_by numbers) call x = []

  -- all pictures, in order: the first is picture 0
  unfoldable pub pictures : (Kind → Coding D) → World → List (Call D) → List (Picture D)
  pictures coding w [] = []
  pictures coding w (call ∷ calls) = sent_as (call_outcome coding w call).gave.answer call (call_outcome coding w call) ++ pictures coding (world_after coding w call) calls

  -- the block is this part of this picture
  pub record PartOf (sent : List (Picture D)) (p part : ℕ) (block : List ℕ) : Type 0 where
    pub picture : Picture D
    pub at : get_elem? sent p ≡ some picture
    pub has : get_elem? picture.blocks part ≡ some block

-- ---- "one sender's clip": any number that the sender opens with, any kind, two stores with any contents, any calls
pub record Clip (D : Type 0) : Type 0 where
  pub number : ℕ
  pub kind : Kind
  pub sender : Sender
  pub is_open : opened_sender number kind ≡ accepted sender
  pub stores : Stores
  pub calls : List (Call D)

module _ {D : Type 0} (coding : Kind → Coding D) (c : Clip D) where
  abbrev pub opening : World
  opening = record { sender = c.sender; both = c.stores }

  -- the blocks that were written: a refused call adds none
  abbrev pub blocks_in : List (List ℕ)
  blocks_in = clip_of coding opening c.calls

  abbrev pub pictures_in : List (Picture D)
  pictures_in = pictures coding opening c.calls

-- "A fresh receiver": one opened for the clip's number and kind, with buffers of any contents
pub record Fresh (number : ℕ) (kind : Kind) : Type 0 where
  pub receiver : Receiver
  pub is_open : R.opened_receiver number kind ≡ accepted receiver
  pub lent : R.Buffers

abbrev pub begin : {number : ℕ} {kind : Kind} → Fresh number kind → W.World
begin r = record { receiver = r.receiver; lent = r.lent }

-- "given any whole unaltered blocks of one sender's clip, missing, repeated or out of order": each is one of the clip's
abbrev pub Each : List (List ℕ) → List (List ℕ) → Type 0
Each clip [] = Unit {0}
Each clip (block ∷ blocks) = Memᴰ block clip × Each clip blocks

-- ---- a receiver, whichever: what a call of `receive` gives back and leaves in the buffers, and what `show` hands back
abbrev pub Receive : Type 0
Receive = Receiver → List ℕ → R.Buffers → R.Outcome

abbrev pub Show : Type 0
Show = Reply → Stores → List ℕ

module _ (receive : Receive) where
  -- "each call .. gets the last state back .. and the same stores and collection buffer, untouched since"
  abbrev pub after_block : W.World → List ℕ → W.World
  after_block w block = let x = receive w.receiver block w.lent in record { receiver = x.gave.next; lent = x.left }

  unfoldable pub world_given : W.World → List (List ℕ) → W.World
  world_given w [] = w
  world_given w (block ∷ blocks) = world_given (after_block w block) blocks

  -- the call for a last block, after all those before it
  abbrev pub upon : W.World → List (List ℕ) → List ℕ → R.Outcome
  upon w blocks block = receive (world_given w blocks).receiver block (world_given w blocks).lent

module _ {D : Type 0} where
  -- "whenever it says that it is in step at picture k, its shown store equals the sender's after picture k, byte for byte; otherwise it says that it isn't in step and hands out nothing"
  abbrev pub Shows : List (Picture D) → Standing → List ℕ → Type 0
  Shows sent (T.InStep k) shown = (picture : Picture D) × (get_elem? sent k ≡ some picture) × (shown ≡ picture.store)
  Shows sent T.Catching shown = shown ≡ []
  Shows sent T.Lost shown = shown ≡ []

  -- of a call's outcome: how the receiver stands, and what is handed back of the stores
  abbrev pub Right : Show → List (Picture D) → R.Outcome → Type 0
  Right show sent x = Shows sent x.gave.next.progress.standing (show x.gave x.left.both)
