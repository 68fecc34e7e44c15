-- Demand 3: "A fresh receiver, given any whole unaltered blocks of one sender's clip, missing, repeated or out of order: whenever it says that it is in step at picture k, its
-- shown store equals the sender's after picture k, byte for byte; otherwise it says that it isn't in step and hands out nothing." Assumes nothing.
use mathlib.Core.Path.{◌≡◌, refl, sym, ap, subst, ◌∙◌}
use mathlib.Core.Bool.{Bool, true, false, true≢false}
use mathlib.Core.List.{List, [], ◌∷◌}
use Prim.Native.Nat.{ℕ, ◌≤◌}
use native.Mathlib.Numerals.{add-one}
use native.Mathlib.Omega.{arith}
use native.Mathlib.Nat.{pos_of_ne-zero}
use borrow.Author.Tests.{eqb-false}
use lib.Dec.{eqb}
use lib.ListN.{get_elem?}
use Rattle.laws.specs.Choice.{pick}
use Rattle.refusals.specs.Told.{untabled, accepted, refused}
use Rattle.refusals.proofs.Told.{accepted_once, told_apart}
use Rattle.coding.specs.declared.Kind.{Kind}
use Rattle.vault.specs.Block.{judge_of}
use Rattle.standing.specs.declared.Holder.TheVariants.{Neither}
use Rattle.standing.specs.Stores.{Stores, reference, shown_store}
use Rattle.sender.specs.declared.Sender.{Sender}
use Rattle.sender.specs.Run.{Call, clip_of}
use Rattle.standing.specs.declared.Receiver.{Receiver}
use Rattle.standing.specs.Answered.{Said}
use Rattle.coding.specs.Coding.{Coding}
use Rattle.coding.specs.Kind.{kind_size, kind_standard, AllLawful}
use Rattle.standing.specs.Receive.{place, Buffers, lent_lengths, judged_block, by_judgement, decide, fresh_receiver, opened_receiver, none_finished, Outcome, came_to, step}
use Rattle.standing.specs.Shown.{where_shown, refused_length, shown_by}
use Rattle.standing.specs.Run.{World}
use Rattle.demand3.specs.Clip.{Picture, pictures, Clip, opening, pictures_in, Each, world_given, upon, Shows, Right}
use Rattle.demand3.specs.Demand3.{InStep}
use Rattle.demand3.specs.Theorems.{InStepAlways}
use Rattle.demand3.proofs.Finished.{none_shown}
use Rattle.demand3.proofs.Sent.{Row, row, row_whole, row_drawn, row_onward, Part, clip_part}
use Rattle.demand3.proofs.Step.{Moment, world_at, outcome_at}
use Rattle.demand3.proofs.Held.{Sound, Held, Goes, step_held, Parts, Runs, run_held}
use Rattle.sender.specs.Send as N
use Rattle.sender.specs.Run as SR
use Rattle.standing.specs.declared.Standing.TheVariants as T
use Rattle.standing.specs.Answered as A

-- ---- opened for a clip
pub sender_opened : (clip : ℕ) (kind : Kind) (s : Sender) → N.opened_sender clip kind ≡ accepted s → (1 ≤ clip) × (N.fresh_sender clip kind ≡ s)
sender_opened clip kind s e = go (eqb clip 0) refl e
  where
    go : (t : Bool) → eqb clip 0 ≡ t → pick t (refused 22 0) (accepted (N.fresh_sender clip kind)) ≡ accepted s → (1 ≤ clip) × (N.fresh_sender clip kind ≡ s)
    go true q h = absurd (told_apart (sym h))
    go false q h = (pos_of_ne-zero (eqb-false clip 0 q), accepted_once h)

pub receiver_opened : (clip : ℕ) (kind : Kind) (r : Receiver) → opened_receiver clip kind ≡ accepted r → fresh_receiver clip kind ≡ r
receiver_opened clip kind r e = go (eqb clip 0) e
  where
    go : (t : Bool) → pick t (refused 22 0) (accepted (fresh_receiver clip kind)) ≡ accepted r → fresh_receiver clip kind ≡ r
    go true h = absurd (told_apart (sym h))
    go false h = accepted_once h

abbrev pub start : Buffers → Moment
start lent = record { wanted = place 0 0; standing = T.Lost; last = none_finished; mark = false; lent = lent }

module _ {D : Type 0} {coding : Kind → Coding D} (lawful : AllLawful coding) where
  -- a clip from its opening
  module _ (clip : ℕ) (kind : Kind) (both : Stores) (calls : List (Call D)) where
    abbrev from_fresh : List (Picture D)
    from_fresh = pictures coding (record { sender = N.fresh_sender clip kind; both = both }) calls

    in_row : Row coding clip kind 0 (reference Neither both) from_fresh
    in_row = row coding (λ k. (lawful.each k).rendered_long) (record { sender = N.fresh_sender clip kind; both = both }) calls

    sound_fresh : 1 ≤ clip → Sound coding clip kind from_fresh
    sound_fresh l = record {
      clip_is = l;
      whole = λ p x e. row_whole coding clip kind 0 (reference Neither both) from_fresh in_row p x e p (omega arith);
      drawn = row_drawn coding clip kind 0 (reference Neither both) from_fresh in_row;
      onward = λ p x y e g. row_onward coding clip kind 0 (reference Neither both) from_fresh in_row p x y e (ap (get_elem? from_fresh) (sym (add-one p)) ∙ g);
    }

  pub sound_clip : (c : Clip D) → Sound coding c.number c.kind (pictures_in coding c)
  sound_clip c =
      let o = sender_opened c.number c.kind c.sender c.is_open in
      subst (λ (t : Sender). Sound coding c.number c.kind (pictures coding (record { sender = t; both = c.stores }) c.calls)) o.1 (sound_fresh c.number c.kind c.stores c.calls o.0)

  pub each_part : (w : SR.World) (calls : List (Call D)) {clip : ℕ} {kind : Kind} (sound : Sound coding clip kind (pictures coding w calls)) (blocks : List (List ℕ))
      → Each (clip_of coding w calls) blocks → Parts lawful sound blocks
  each_part w calls sound [] t = tt
  each_part w calls sound (block ∷ blocks) t = (clip_part coding w calls block t.0, each_part w calls sound blocks t.1)

  module _ {clip : ℕ} {kind : Kind} {sent : List (Picture D)} (sound : Sound coding clip kind sent) where
    pub start_held : (lent : Buffers) → lent_lengths (kind_size kind) lent ≡ true → Held lawful sound (start lent)
    start_held lent e = record { named = e; collecting = λ q. absurd (true≢false q); shows = none_shown (kind_size kind) lent.both }

    -- a receiver of which this holds is right
    held_right : (answer : Said) (m : Moment) → refused_length answer ≡ false → Held lawful sound m → Right shown_by sent (outcome_at clip kind answer m)
    unfolding shown_by
    held_right answer m e h =
        subst (λ (t : Bool). Shows sent m.standing (shown_store (kind_size kind) (pick t Neither (where_shown m.standing m.last.holder)) m.lent.both)) (sym e) h.shows

    pub upon_right : (m : Moment) → Held lawful sound m → (blocks : List (List ℕ)) → Parts lawful sound blocks → (block : List ℕ) → Part coding sent block
        → Right shown_by sent (upon (step coding) (world_at clip kind m) blocks block)
    upon_right m h blocks t block b =
        let ran : Runs lawful sound m blocks = run_held lawful sound m h blocks t in
        let g : Goes lawful sound b.p b.part ran.last block = step_held lawful sound b.is ran.last ran.held in
        subst (Right shown_by sent) (sym (ap (λ (w : World). step coding w.receiver block w.lent) ran.is ∙ g.comes.is))
        (held_right g.comes.answer g.next g.comes.long g.held)

    -- ---- where a lent buffer hasn't its named length, each call is refused by 1
    module _ (lent : Buffers) (e : lent_lengths (kind_size kind) lent ≡ false) where
      pub short : (block : List ℕ) → step coding (fresh_receiver clip kind) block lent ≡ outcome_at clip kind (A.refused (untabled 1 0)) (start lent)
      unfolding step decide judged_block by_judgement came_to
      short block =
          ap (λ (t : Bool). came_to coding (fresh_receiver clip kind) block lent (by_judgement coding (pick t (judge_of (kind_size kind) (kind_standard kind) clip block) (refused 1 0)) (fresh_receiver clip kind) block lent.collection)) e

      pub short_run : (blocks : List (List ℕ)) → world_given (step coding) (world_at clip kind (start lent)) blocks ≡ world_at clip kind (start lent)
      unfolding world_given
      short_run [] = refl
      short_run (block ∷ blocks) = ap (λ (x : Outcome). world_given (step coding) (record { receiver = x.gave.next; lent = x.left }) blocks) (short block) ∙ short_run blocks

      none : Right shown_by sent (outcome_at clip kind (A.refused (untabled 1 0)) (start lent))
      unfolding shown_by
      none = none_shown (kind_size kind) lent.both

      short_right : (blocks : List (List ℕ)) (block : List ℕ) → Right shown_by sent (upon (step coding) (world_at clip kind (start lent)) blocks block)
      short_right blocks block =
          subst (Right shown_by sent) (sym (ap (λ (w : World). step coding w.receiver block w.lent) (short_run blocks) ∙ short block)) none

    fresh_right : (lent : Buffers) (blocks : List (List ℕ)) → Parts lawful sound blocks → (block : List ℕ) → Part coding sent block
        → Right shown_by sent (upon (step coding) (world_at clip kind (start lent)) blocks block)
    fresh_right lent blocks t block b = go (lent_lengths (kind_size kind) lent) refl
      where
        go : (named : Bool) → lent_lengths (kind_size kind) lent ≡ named → Right shown_by sent (upon (step coding) (world_at clip kind (start lent)) blocks block)
        go true e = upon_right (start lent) (start_held lent e) blocks t block b
        go false e = short_right lent e blocks block

  right_always : InStep coding (step coding) shown_by
  right_always c r blocks block each one =
      let sound : Sound coding c.number c.kind (pictures_in coding c) = sound_clip c in
      subst (λ (x : Receiver). Right shown_by (pictures_in coding c) (upon (step coding) (record { receiver = x; lent = r.lent }) blocks block)) (receiver_opened c.number c.kind r.receiver r.is_open)
      (fresh_right sound r.lent blocks (each_part (opening coding c) c.calls sound blocks each) block (clip_part coding (opening coding c) c.calls block one))

-- THE THEOREM
pub in_step : InStepAlways
in_step D coding lawful = right_always lawful
