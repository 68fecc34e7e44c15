-- Document 02, T-14, "Back in step, and how soon": of any receiver, as demand 3 is, and of any sender's clip. Assumes nothing.
use Rattle.std.specs.Prelude.{◌≡◌, true, false, ℕ, ◌+◌, ◌≤◌, ◌<◌, length}
use mathlib.Core.List.{List, [], ◌∷◌, ◌++◌, Memᴰ}
use Rattle.std.proofs.Math.Option.{some}
use Rattle.std.proofs.Math.ListN.{get_elem?}
use Rattle.coding.specs.declared.Kind.{Kind}
use Rattle.coding.specs.Coding.{Coding}
use Rattle.coding.specs.Kind.{kind_size, coding_of, AllLawful}
use Rattle.standing.specs.Receive.{Outcome, place, earlier_place, lent_lengths, step}
use Rattle.standing.specs.Run.{World}
use Rattle.standing.specs.Shown.{shown_by}
use Rattle.demand3.specs.Clip.{Picture, PartOf, Clip, blocks_in, pictures_in, Fresh, begin, Each, Receive, Show, after_block, world_given, upon}
use Rattle.demand3.specs.Arrives.{InStepAt}
use Rattle.demand3.specs.Demand3.{InStep}
use Rattle.standing.specs.declared.Standing.TheVariants as T

-- ---- two deliveries
-- a delivery's last call: some of the clip's blocks, and then one of them
pub record Delivered {D : Type 0} (coding : Kind → Coding D) (c : Clip D) : Type 0 where
  pub receiver : Fresh c.number c.kind
  pub blocks : List (List ℕ)
  pub block : List ℕ
  pub each : Each (blocks_in coding c) blocks
  pub one : Memᴰ block (blocks_in coding c)

abbrev pub last_call : {D : Type 0} {coding : Kind → Coding D} {c : Clip D} → Receive → Delivered coding c → Outcome
last_call receive x = upon receive (begin x.receiver) x.blocks x.block

-- "Two receivers given different deliveries of it, both in step at k, show equal stores."
abbrev pub ShowEqual : {D : Type 0} → (Kind → Coding D) → Receive → Show → Type 0
ShowEqual {D} coding receive show = (c : Clip D) (x y : Delivered coding c) (k : ℕ)
    → (last_call receive x).gave.next.progress.standing ≡ T.InStep k → (last_call receive y).gave.next.progress.standing ≡ T.InStep k
    → show (last_call receive x).gave (last_call receive x).left.both ≡ show (last_call receive y).gave (last_call receive y).left.both

-- ---- how soon
module _ {D : Type 0} (sent : List (Picture D)) where
  -- "from some block on .. all blocks arrive in order with no other between them": from this part of picture p on, each the clip's next, up to the place before part `last` of picture q
  pub data InOrder (q last : ℕ) : ℕ → ℕ → List (List ℕ) → Type 0 where
    here : InOrder q last q last []
    next : {p part : ℕ} {block : List ℕ} {blocks : List (List ℕ)} → PartOf sent p part block → InOrder q last p (part + 1) blocks → InOrder q last p part (block ∷ blocks)
    -- all parts of picture p have come
    onward : {p part : ℕ} {blocks : List (List ℕ)} (picture : Picture D) → get_elem? sent p ≡ some picture → part ≡ length picture.blocks → InOrder q last (p + 1) 0 blocks
        → InOrder q last p part blocks

-- "every run of 12 consecutive pictures holds a refresh": of n
abbrev pub RefreshEvery : {D : Type 0} → Coding D → ℕ → List (Picture D) → Type 0
RefreshEvery {D} coding n sent = (i : ℕ) → i + n ≤ length sent
    → (p : ℕ) × (i ≤ p) × (p < i + n) × (picture : Picture D) × (get_elem? sent p ≡ some picture) × (coding.refresh picture.description ≡ true)

-- in step after each of these blocks
abbrev pub StaysInStep : Receive → World → List (List ℕ) → Type 0
StaysInStep receive w [] = Unit {0}
StaysInStep receive w (block ∷ blocks) =
    (k : ℕ) × ((after_block receive w block).receiver.progress.standing ≡ T.InStep k) × StaysInStep receive (after_block receive w block) blocks

-- "the receiver has, from that block on, finished a picture in step by the end of picture `most` .. and stays in step while the blocks go on so"
pub record Soon {D : Type 0} (receive : Receive) (show : Show) (sent : List (Picture D)) (most : ℕ) (w : World) (blocks : List (List ℕ)) : Type 0 where
  pub k : ℕ
  pub by : k ≤ most
  pub upto : List (List ℕ)
  pub rest : List (List ℕ)
  pub is : blocks ≡ upto ++ rest
  pub finishes : InStepAt receive show sent k w upto
  pub stays : StaysInStep receive (world_given receive w upto) rest

module _ {D : Type 0} (coding : Kind → Coding D) (receive : Receive) (show : Show) where
  -- "where every run of 12 consecutive pictures holds a refresh: if from some block on, at a place not earlier than the wanted one, all blocks arrive in order with no other between them, and the
  -- block's picture is j, then ..": after any delivery. That the blocks go past picture j + 12 says that the clip goes that far
  abbrev pub BackInStep : ℕ → Type 0
  BackInStep n =
      (c : Clip D) (r : Fresh c.number c.kind) → lent_lengths (kind_size c.kind) r.lent ≡ true → RefreshEvery (coding c.kind) n (pictures_in coding c)
      → (delivered : List (List ℕ)) → Each (blocks_in coding c) delivered
      → (j part : ℕ) → earlier_place (place j part) (world_given receive (begin r) delivered).receiver.progress.wanted ≡ false
      → (q last : ℕ) (blocks : List (List ℕ)) → InOrder (pictures_in coding c) q last j part blocks → j + n < q
      → Soon receive show (pictures_in coding c) (j + n) (world_given receive (begin r) delivered) blocks

-- ---- the theorems
-- of any receiver that is right whenever it is in step
abbrev pub ShowEqualAlways : Type 1
ShowEqualAlways = (D : Type 0) (coding : Kind → Coding D) (receive : Receive) (show : Show) → InStep coding receive show → ShowEqual coding receive show

-- of ours, for runs of any length
abbrev pub BackInStepAlways : Type 1
BackInStepAlways = (D : Type 0) (coding : Kind → Coding D) → AllLawful coding → (n : ℕ) → BackInStep coding (step coding) shown_by n

-- and so for 12, of each kind's clips
abbrev pub BackInStepBy12 : Type 0
BackInStepBy12 = BackInStep coding_of (step coding_of) shown_by 12
