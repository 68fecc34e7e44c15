-- Demand 3, of any receiver: of what its `receive` and its `show` do. Assumes nothing.
use Rattle.std.specs.Prelude.{◌≡◌, true, false, ℕ, ◌+◌, length}
use mathlib.Core.List.{List, ◌++◌, Memᴰ}
use Rattle.std.proofs.Math.Option.{some}
use Rattle.std.proofs.Math.ListN.{get_elem?}
use Rattle.coding.specs.declared.Kind.{Kind}
use Rattle.coding.specs.Coding.{Coding}
use Rattle.coding.specs.Kind.{kind_size}
use Rattle.standing.specs.Receive.{place, earlier_place, lent_lengths}
use Rattle.demand3.specs.Clip.{Picture, Clip, blocks_in, pictures_in, Fresh, begin, Each, Receive, Show, world_given, upon, Right}
use Rattle.demand3.specs.Arrives.{Arrives, Follow, in_turn, InStepAt}

module _ {D : Type 0} (coding : Kind → Coding D) (receive : Receive) (show : Show) where
  -- "A fresh receiver, given any whole unaltered blocks of one sender's clip, missing, repeated or out of order: whenever it says that it is in step at picture k, its shown store
  -- equals the sender's after picture k, byte for byte; otherwise it says that it isn't in step and hands out nothing." After each block, and with lent buffers of any lengths
  abbrev pub InStep : Type 0
  InStep =
      (c : Clip D) (r : Fresh c.number c.kind) (blocks : List (List ℕ)) (block : List ℕ) → Each (blocks_in coding c) blocks → Memᴰ block (blocks_in coding c)
      → Right show (pictures_in coding c) (upon receive (begin r) blocks block)

  -- "Whenever all blocks of a fully INTRA picture, none earlier than the block it wants, arrive in order with at most older blocks between, it finishes that picture in step, and so
  -- each next picture whose blocks follow on." After any blocks of the clip; every lent buffer has its named length
  abbrev pub CatchesUp : Type 0
  CatchesUp =
      (c : Clip D) (r : Fresh c.number c.kind) → lent_lengths (kind_size c.kind) r.lent ≡ true → (blocks : List (List ℕ)) → Each (blocks_in coding c) blocks
      → (p : ℕ) (picture : Picture D) → get_elem? (pictures_in coding c) p ≡ some picture → (coding c.kind).refresh picture.description ≡ true
      → earlier_place (place p 0) (world_given receive (begin r) blocks).receiver.progress.wanted ≡ false
      → (first : List (List ℕ)) (later : List (List (List ℕ))) → Arrives (pictures_in coding c) p 0 first → Follow (pictures_in coding c) (p + 1) later
      → InStepAt receive show (pictures_in coding c) (p + length later) (world_given receive (begin r) blocks) (first ++ in_turn later)

  pub record Demand3 : Type 0 where
    pub in_step : InStep
    pub catches_up : CatchesUp
