-- What comes of the calls of a clip, into outputs and stores that are all 0: a picture for each that can be sent, none for one above the limit. Assumes nothing.
use mathlib.Core.Path.{◌≡◌, refl, ap, ◌∙◌}
use mathlib.Core.Bool.{Bool, true}
use mathlib.Core.List.{List, [], ◌∷◌, ◌++◌, map}
use Prim.Native.Nat.{ℕ, ◌+◌, ◌≤◌, ◌<◌}
use native.Mathlib.Nat.{mul-one}
use native.Mathlib.Omega.{arith}
use borrow.Author.Tests.{eq-eqb, ne_eqb}
use lib.Dec.{eqb}
use lib.ListN.{length}
use Rattle.laws.specs.Choice.{either, opposite}
use Rattle.refusals.specs.Told.{refused}
use Rattle.size.specs.declared.Size.{Size}
use Rattle.size.specs.Size.{limit, store_length, collection_length, blocks_length}
use Rattle.layout.specs.Flat.{Flat}
use Rattle.coding.specs.declared.Kind.{Kind}
use Rattle.coding.specs.Coding.{Coding}
use Rattle.coding.specs.Kind.{kind_size, coding_of}
use Rattle.vault.specs.Block.{pictures as most_pictures}
use Rattle.standing.specs.Stores.{reference, stores_with}
use Rattle.sender.specs.Send.{Buffers, Judgement, sends, refuses, Outcome, judge, next_sender, count_sent, shown_by, came_to, step}
use Rattle.sender.specs.Sending.{Passed}
use Rattle.sender.specs.Run.{Call, World, cut, call_outcome, world_after}
use Rattle.sender.proofs.Laws.{below, above}
use Rattle.demand2.proofs.WrittenBack.{valid_named}
use Rattle.demand3.specs.Clip.{Picture, sent_as, pictures}
use Rattle.demand3.proofs.Finished.{both_sized, kept_sized}
use Rattle.demand3.proofs.Step.{lengths_make}
use Rattle.instances.specs.Example.{blank, blank_stores, newcomer, call, calls}
use Rattle.instances.proofs.Repeated.{repeated-length}
use Rattle.standing.specs.Receive as R

-- ---- buffers
pub blank_long : (n : ℕ) → length (blank n) ≡ n
blank_long n = repeated-length n (0 ∷ []) ∙ mul-one n

pub blank_sized : (size : Size) → both_sized size (blank_stores size) ≡ true
blank_sized size = rw (eq-eqb (length (blank (store_length size))) (store_length size) (blank_long (store_length size)))

pub newcomer_named : (kind : Kind) → R.lent_lengths (kind_size kind) (newcomer kind).lent ≡ true
newcomer_named kind =
    lengths_make (kind_size kind) (blank (collection_length (kind_size kind))) (blank_stores (kind_size kind)) (blank_long (collection_length (kind_size kind))) (blank_sized (kind_size kind))

-- ---- a description that passes all judgements but 33 and 32
pub record Described {D : Type 0} (coding : Kind → Coding D) (kind : Kind) (d : D) : Type 0 where
  pub named : (coding kind).named d ≡ true
  pub valid : (coding kind).valid d ≡ true

pub described : (kind : Kind) (d : Flat) → (coding_of kind).valid d ≡ true → Described coding_of kind d
described kind d v = record { named = valid_named kind d v; valid = v }

-- ---- one call
module _ {D : Type 0} (coding : Kind → Coding D) (w : World) (d : D) where
  abbrev pub kind : Kind
  kind = w.sender.kind

  abbrev pub lent : Buffers
  lent = record { out = blank (blocks_length (kind_size kind)); both = w.both }

  abbrev pub sent : Outcome
  sent = came_to coding w.sender d lent sends

  -- the picture, and the sender after it
  abbrev pub picture_of : Picture D
  picture_of = record { description = d; blocks = cut (count_sent coding w.sender d) sent.left.out; store = shown_by sent.gave.next sent.left.both }

  abbrev pub next : World
  next = record { sender = next_sender w.sender; both = stores_with w.sender.holder ((coding kind).render d (reference w.sender.holder w.both)) w.both }

  module _ (sized : both_sized (kind_size kind) w.both ≡ true) where
    pub next_sized : length ((coding kind).render d (reference w.sender.holder w.both)) ≡ store_length (kind_size kind) → both_sized (kind_size kind) next.both ≡ true
    next_sized long = kept_sized (kind_size kind) w.sender.holder ((coding kind).render d (reference w.sender.holder w.both)) w.both long sized

    module _ (few : w.sender.picture < most_pictures) (can : Described coding kind d) (begins : either (opposite (eqb w.sender.picture 0)) ((coding kind).refresh d) ≡ true) where
      passed : Passed coding w.sender ((coding kind).refresh d) d lent
      passed = record {
        named_is = rw (can.named, eq-eqb (length (blank (blocks_length (kind_size kind)))) (blocks_length (kind_size kind)) (blank_long (blocks_length (kind_size kind)))) sized;
        counted = few;
        valid_is = can.valid;
        refresh_is = refl;
        begins = begins;
      }

      -- by its judgement, what the call adds to the clip
      by : (j : Judgement) → judge coding w.sender d lent ≡ j → (rest : List (Call D))
          → pictures coding w (call kind d ∷ rest) ≡ (let x : Outcome = came_to coding w.sender d lent j in sent_as x.gave.answer (call kind d) x ++ pictures coding (record { sender = x.gave.next; both = x.left.both }) rest)
      unfolding pictures call_outcome world_after step
      by j e rest =
          ap (λ (j : Judgement). let x : Outcome = came_to coding w.sender d lent j in
          sent_as x.gave.answer (call kind d) x ++ pictures coding (record { sender = x.gave.next; both = x.left.both }) rest) e

      pub picture_first : length ((coding kind).written d) ≤ limit (kind_size kind) → (rest : List (Call D)) → pictures coding w (call kind d ∷ rest) ≡ picture_of ∷ pictures coding next rest
      unfolding came_to
      picture_first l rest = by sends (below coding w.sender d lent passed l) rest

      pub after_first : length ((coding kind).written d) ≤ limit (kind_size kind) → world_after coding w (call kind d) ≡ next
      unfolding world_after call_outcome step came_to
      after_first l = ap (λ (j : Judgement). let x : Outcome = came_to coding w.sender d lent j in record { sender = x.gave.next; both = x.left.both }) (below coding w.sender d lent passed l)

      module _ (l : limit (kind_size kind) < length ((coding kind).written d)) where
        pub none_first : (rest : List (Call D)) → pictures coding w (call kind d ∷ rest) ≡ pictures coding w rest
        unfolding came_to
        none_first rest = by (refuses 32) (above coding w.sender d lent passed l) rest

        pub above-refused : (call_outcome coding w (call kind d)).gave.answer ≡ refused 32 0
        unfolding call_outcome step came_to
        above-refused = ap (λ (j : Judgement). (came_to coding w.sender d lent j).gave.answer) (above coding w.sender d lent passed l)

-- ---- calls that can all be sent, one after another
pub record Sendable {D : Type 0} (coding : Kind → Coding D) (kind : Kind) (d : D) : Type 0 where
  pub can : Described coding kind d
  pub within : length ((coding kind).written d) ≤ limit (kind_size kind)

module _ {D : Type 0} (coding : Kind → Coding D) (long : (kind : Kind) (d : D) (before : List ℕ) → length ((coding kind).render d before) ≡ store_length (kind_size kind)) {A : Type 0} (describe : A → D) where
  -- each becomes a picture of its description
  pub all_sent : (w : World) → both_sized (kind_size w.sender.kind) w.both ≡ true → ((a : A) → Sendable coding w.sender.kind (describe a))
      → (a : A) → either (opposite (eqb w.sender.picture 0)) ((coding w.sender.kind).refresh (describe a)) ≡ true → (l : List A) → w.sender.picture + length (a ∷ l) ≤ most_pictures
      → map (λ (x : Picture D). x.description) (pictures coding w (calls w.sender.kind (map describe (a ∷ l)))) ≡ map describe (a ∷ l)
  unfolding pictures
  all_sent w sized can a begins [] few =
      ap (map (λ (x : Picture D). x.description)) (picture_first coding w (describe a) sized (omega (arith, few)) (can a).can begins (can a).within [])
  all_sent w sized can a begins (b ∷ l) few =
      ap (map (λ (x : Picture D). x.description)) (picture_first coding w (describe a) sized (omega (arith, few)) (can a).can begins (can a).within (calls w.sender.kind (map describe (b ∷ l))))
      ∙ ap (λ (ds : List D). describe a ∷ ds)
      (all_sent (next coding w (describe a)) (next_sized coding w (describe a) sized (long w.sender.kind (describe a) (reference w.sender.holder w.both))) can b
      (later ((coding w.sender.kind).refresh (describe b))) l (omega (arith, few)))
    where
      later : (t : Bool) → either (opposite (eqb (w.sender.picture + 1) 0)) t ≡ true
      later t = rw (ne_eqb (w.sender.picture + 1) 0 (λ e. omega (arith, e)))
