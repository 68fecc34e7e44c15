-- The example comes to what it says: call by call for the sender, block by block for the receiver. Assumes nothing.
use mathlib.Core.Path.{◌≡◌, refl, sym, ap, subst, ◌∙◌}
use mathlib.Core.Bool.{true, false}
use mathlib.Core.List.Memᴰ
use mathlib.Core.List.{List, [], ◌∷◌, ◌++◌, append-nil, append_assoc, Memᴰ}
use mathlib.Core.Option.{some, some-injective}
use Prim.Native.Nat.{ℕ, zero, suc, ◌+◌, ◌*◌}
use native.Mathlib.Nat.{zero-add}
use native.Mathlib.Omega.{arith}
use borrow.Author.Tests.{eq-eqb}
use lib.Dec.{lit<}
use lib.ListN.{length, get_elem?}
use Rattle.refusals.specs.Told.{refused}
use Rattle.size.specs.Size.{output_length}
use Rattle.layout.specs.Flat.{Flat}
use Rattle.coding.specs.declared.Kind.{Kind}
use Rattle.coding.specs.declared.Kind.TheVariants.{H261, H263}
use Rattle.coding.specs.Kind.{kind_size, coding_of}
use Rattle.coding.proofs.AllLawful.{coding_lawful}
use Rattle.ticks.specs.declared.Tick.{Tick}
use Rattle.ticks.specs.declared.Tick.TheVariants.{Exact, Estimated}
use Rattle.ticks.specs.Tick.{first_tick, tr_difference, tick_above, later_tick}
use Rattle.standing.specs.declared.Holder.TheVariants.{First, Second}
use Rattle.standing.specs.declared.Last.{Last}
use Rattle.standing.specs.declared.Place.{Place}
use Rattle.standing.specs.Answered.{lost, picture}
use Rattle.standing.specs.Receive.{place, last_in, none_finished, tick_in, earlier_place, same_place, is_lost, step}
use Rattle.standing.specs.Run.{World, answers}
use Rattle.standing.specs.Shown.{shown_by}
use Rattle.sender.specs.Run.{call_outcome, world_after}
use Rattle.demand2.proofs.WrittenBack.{valid_named}
use Rattle.demand2.proofs.Demand2.{write_refused}
use Rattle.demand3.specs.Clip.{Picture, PartOf, pictures, opening, blocks_in, pictures_in, begin, Each, world_given}
use Rattle.demand3.specs.Arrives.{Follow, in_turn, InStepAt}
use Rattle.demand3.proofs.Finished.{both_sized}
use Rattle.demand3.proofs.Step.{Moment, world_at, tick_of, astray, Comes}
use Rattle.demand3.proofs.Held.{Sound, held_astray, after_comes}
use Rattle.demand3.proofs.InStep.{start, start_held, sound_clip}
use Rattle.demand3.proofs.Calls.{each_of, given_append}
use Rattle.demand3.proofs.WholeClip.{blocks_each, clip_in_turn, own_arrive}
use Rattle.demand3.proofs.Meets.{codings_meet}
use Rattle.instances.specs.Uniform.{still, grey, heavy}
use Rattle.instances.specs.Example.{newcomer, call, calls, example}
use Rattle.instances.specs.Instances.{AboveLimitValid, arrival, before_last, Example, Delivered, ExampleDelivered}
use Rattle.instances.proofs.Codes.{one, two}
use Rattle.instances.proofs.Uniform.{still-valid, still_plain, still_fits, still_parts, still_tr, grey-valid, grey_refresh, grey_fits, grey_parts, grey_tr, some_left, heavy-valid, heavy_past}
use Rattle.instances.proofs.Sending.{blank_sized, newcomer_named, Described, described, picture_of, next, next_sized, picture_first, none_first, after_first, above-refused}
use Rattle.instances.proofs.Arriving.{answers-append, Brings, answers_on, from_part, from_start, goes_astray, says_lost}
use Rattle.sender.specs.Run as S

-- ---- of lists
member_in : (xs : List (Picture Flat)) (p : ℕ) (x : Picture Flat) → get_elem? xs p ≡ some x → (b : List ℕ) → Memᴰ b x.blocks → Memᴰ b (in_turn (blocks_each xs))
member_in [] p x e b m = let z : ◌≡◌ {A = ℕ} 0 1 = cc in absurd (omega arith)
member_in (y ∷ ys) zero x e b m = Memᴰ.append_left (in_turn (blocks_each ys)) (subst (λ (z : Picture Flat). Memᴰ b z.blocks) (sym (some-injective y x e)) m)
member_in (y ∷ ys) (suc p) x e b m = Memᴰ.append_right y.blocks (member_in ys p x e b m)

pub each_parts : (clip a b : List (List ℕ)) → Each clip (a ++ b) → Each clip a × Each clip b
each_parts clip [] b t = (tt, t)
each_parts clip (block ∷ a) b t = let s = each_parts clip a b t.1 in ((t.0, s.0), s.1)

-- ---- above the limit
pub above_limit_valid : AboveLimitValid
above_limit_valid k = record {
  is_valid = heavy-valid k;
  above = heavy_past k;
  answers_32 = λ out e. write_refused.above k (heavy k) out (rw (valid_named k (heavy k) (heavy-valid k), eq-eqb (length out) (output_length (kind_size k)) e)) (heavy-valid k) (heavy_past k);
}

-- ---- each TR is 0, so that a tick is its modulus above the last
tick_later : (k : Kind) → later_tick (coding_of k).modulus 0 (Exact 0) 3 0 ≡ Estimated (coding_of k).modulus
unfolding later_tick tick_above tr_difference coding_of
tick_later (H261 f) = refl
tick_later (H263 size) = refl

tick_then : (k : Kind) → later_tick (coding_of k).modulus 3 (Estimated (coding_of k).modulus) 4 0 ≡ Estimated (2 * (coding_of k).modulus)
unfolding later_tick tick_above tr_difference coding_of
tick_then (H261 f) = refl
tick_then (H263 size) = refl

-- ---- what the calls come to
module _ (kind : Kind) where
  -- ---- the sender after each call
  abbrev world0 : S.World
  world0 = opening coding_of (example kind)

  abbrev world1 : S.World
  world1 = next coding_of world0 (grey kind 1)

  abbrev world2 : S.World
  world2 = next coding_of world1 (still kind)

  abbrev world3 : S.World
  world3 = next coding_of world2 (still kind)

  abbrev world4 : S.World
  world4 = next coding_of world3 (grey kind 2)

  abbrev Sized : S.World → Type 0
  Sized w = both_sized (kind_size kind) w.both ≡ true

  sized0 : Sized world0
  sized0 = blank_sized (kind_size kind)

  sized1 : Sized world1
  sized1 = next_sized coding_of world0 (grey kind 1) sized0 ((coding_lawful.each kind).rendered_long (grey kind 1) _)

  sized2 : Sized world2
  sized2 = next_sized coding_of world1 (still kind) sized1 ((coding_lawful.each kind).rendered_long (still kind) _)

  sized3 : Sized world3
  sized3 = next_sized coding_of world2 (still kind) sized2 ((coding_lawful.each kind).rendered_long (still kind) _)

  sized4 : Sized world4
  sized4 = next_sized coding_of world3 (grey kind 2) sized3 ((coding_lawful.each kind).rendered_long (grey kind 2) _)

  abbrev sent0 : Picture Flat
  sent0 = picture_of coding_of world0 (grey kind 1)

  abbrev sent1 : Picture Flat
  sent1 = picture_of coding_of world1 (still kind)

  abbrev sent2 : Picture Flat
  sent2 = picture_of coding_of world2 (still kind)

  abbrev sent3 : Picture Flat
  sent3 = picture_of coding_of world3 (grey kind 2)

  abbrev sent4 : Picture Flat
  sent4 = picture_of coding_of world4 (still kind)

  abbrev sent : List (Picture Flat)
  sent = pictures_in coding_of (example kind)

  can_still : Described coding_of kind (still kind)
  can_still = described kind (still kind) (still-valid kind)

  sent_are : sent ≡ sent0 ∷ sent1 ∷ sent2 ∷ sent3 ∷ sent4 ∷ []
  unfolding pictures
  sent_are =
      picture_first coding_of world0 (grey kind 1) sized0 (lit< tt) (described kind (grey kind 1) (grey-valid one kind)) (grey_refresh kind one) (grey_fits kind one) (calls kind (heavy kind ∷ still kind ∷ still kind ∷ grey kind 2 ∷ still kind ∷ []))
      ∙ ap (λ (l : List (Picture Flat)). sent0 ∷ l)
      (none_first coding_of world1 (heavy kind) sized1 (lit< tt) (described kind (heavy kind) (heavy-valid kind)) refl (heavy_past kind) (calls kind (still kind ∷ still kind ∷ grey kind 2 ∷ still kind ∷ []))
      ∙ picture_first coding_of world1 (still kind) sized1 (lit< tt) can_still refl (still_fits kind) (calls kind (still kind ∷ grey kind 2 ∷ still kind ∷ []))
      ∙ ap (λ (l : List (Picture Flat)). sent1 ∷ l)
      (picture_first coding_of world2 (still kind) sized2 (lit< tt) can_still refl (still_fits kind) (calls kind (grey kind 2 ∷ still kind ∷ []))
      ∙ ap (λ (l : List (Picture Flat)). sent2 ∷ l)
      (picture_first coding_of world3 (grey kind 2) sized3 (lit< tt) (described kind (grey kind 2) (grey-valid two kind)) refl (grey_fits kind two) (calls kind (still kind ∷ []))
      ∙ ap (λ (l : List (Picture Flat)). sent3 ∷ l) (picture_first coding_of world4 (still kind) sized4 (lit< tt) can_still refl (still_fits kind) []))))

  second_refused : (call_outcome coding_of (world_after coding_of world0 (call kind (grey kind 1))) (call kind (heavy kind))).gave.answer ≡ refused 32 0
  second_refused =
      ap (λ (w : S.World). (call_outcome coding_of w (call kind (heavy kind))).gave.answer)
      (after_first coding_of world0 (grey kind 1) sized0 (lit< tt) (described kind (grey kind 1) (grey-valid one kind)) (grey_refresh kind one) (grey_fits kind one))
      ∙ above-refused coding_of world1 (heavy kind) sized1 (lit< tt) (described kind (heavy kind) (heavy-valid kind)) refl (heavy_past kind)

  pub example-sent : Example kind
  example-sent = record {
    picture0 = sent0;
    picture1 = sent1;
    picture2 = sent2;
    picture3 = sent3;
    picture4 = sent4;
    sent = sent_are;
    is_refused = second_refused;
    described0 = refl;
    described3 = refl;
    refresh0 = grey_refresh kind one;
    plain1 = still_plain kind;
    plain2 = still_plain kind;
    refresh3 = grey_refresh kind two;
    plain4 = still_plain kind;
  }

  -- ---- the receiver, picture by picture
  abbrev sound : Sound coding_of 1 kind sent
  sound = sound_clip coding_lawful (example kind)

  abbrev At : ℕ → Picture Flat → Type 0
  At p x = get_elem? sent p ≡ some x

  at : (p : ℕ) (x : Picture Flat) → get_elem? (sent0 ∷ sent1 ∷ sent2 ∷ sent3 ∷ sent4 ∷ []) p ≡ some x → At p x
  at p x e = ap (λ (l : List (Picture Flat)). get_elem? l p) sent_are ∙ e

  own : (x : Picture Flat) (i : ℕ) → get_elem? x.blocks i ≡ get_elem? x.blocks (0 + i)
  own x i = ap (get_elem? x.blocks) (sym (zero-add i))

  abbrev opened : Moment
  opened = start (newcomer kind).lent

  abbrev modulus : ℕ
  modulus = (coding_of kind).modulus

  abbrev last0 : Last
  last0 = last_in First 0 (Exact 0)

  abbrev last3 : Last
  last3 = last_in Second 3 (Estimated modulus)

  tick0 : tick_of coding_of kind sent0 none_finished 0 ≡ Exact 0
  unfolding tick_in
  tick0 = ap (first_tick 0) (grey_tr kind 1)

  tick3 : tick_of coding_of kind sent3 last0 3 ≡ Estimated modulus
  unfolding tick_in
  tick3 = ap (later_tick modulus 0 (Exact 0) 3) (grey_tr kind 2) ∙ tick_later kind

  tick4 : tick_of coding_of kind sent4 last3 4 ≡ Estimated (2 * modulus)
  unfolding tick_in
  tick4 = ap (later_tick modulus 3 (Estimated modulus) 4) (still_tr kind) ∙ tick_then kind

  bring0 : Brings coding_lawful sound 0 last0 opened sent0.blocks (arrival 0 0 (before_last kind) (Exact 0))
  bring0 =
      subst (λ (t : Tick). Brings coding_lawful sound 0 (last_in First 0 t) opened sent0.blocks (arrival 0 0 (before_last kind) t)) tick0
      (from_start coding_lawful sound 0 sent0 (at 0 sent0 refl) (before_last kind) sent0.blocks (own sent0) (some_left kind) ((sound.whole 0 sent0 (at 0 sent0 refl)).count ∙ grey_parts kind one) (sym (grey_parts kind one))
      opened (start_held coding_lawful sound (newcomer kind).lent (newcomer_named kind)) (grey_refresh kind one) refl refl none_finished refl)

  abbrev finished0 : Moment
  finished0 = bring0.last

  -- picture 2's block, and picture 1 missing
  one_block : (l : List (List ℕ)) → length l ≡ 1 → (b : List ℕ) × (l ≡ b ∷ [])
  one_block [] e = absurd (omega arith)
  one_block (b ∷ []) e = (b, refl)
  one_block (b ∷ c ∷ l) e = absurd (omega arith)

  block2 : (b : List ℕ) × (sent2.blocks ≡ b ∷ [])
  block2 = one_block sent2.blocks ((sound.whole 2 sent2 (at 2 sent2 refl)).count ∙ still_parts kind)

  abbrev part2 : PartOf sent 2 0 block2.0
  part2 = record { picture = sent2; at = at 2 sent2 refl; has = ap (λ (l : List (List ℕ)). get_elem? l 0) block2.1 }

  abbrev Before2 : Place → Type 0
  Before2 w = (earlier_place (place 2 0) w ≡ false) × (same_place (place 2 0) w ≡ false)

  gap : Before2 finished0.wanted
  gap = subst Before2 (sym bring0.wants) (refl, refl)

  stray2 : Comes coding_lawful 1 kind finished0 block2.0 (astray finished0)
  stray2 = goes_astray coding_lawful sound part2 finished0 bring0.held (still_plain kind) gap.0 gap.1

  lost2 : answers coding_of (world_at 1 kind finished0) sent2.blocks ≡ lost ∷ []
  unfolding answers stray2
  lost2 =
      ap (answers coding_of (world_at 1 kind finished0)) block2.1
      ∙ answers_on coding_lawful sound finished0 (astray finished0) block2.0 [] lost stray2 (says_lost coding_lawful sound part2 finished0 bring0.held (still_plain kind) gap.0 gap.1)

  abbrev opening_world : World
  opening_world = begin (newcomer kind)

  run2 : world_given (step coding_of) opening_world (sent0.blocks ++ sent2.blocks) ≡ world_at 1 kind (astray finished0)
  unfolding world_given
  run2 =
      given_append (step coding_of) opening_world sent0.blocks sent2.blocks
      ∙ (λ i. world_given (step coding_of) (bring0.is i) (block2.1 i))
      ∙ after_comes coding_lawful sound finished0 block2.0 (astray finished0) stray2

  not_past : earlier_place (place 3 0) (world_given (step coding_of) opening_world (sent0.blocks ++ sent2.blocks)).receiver.progress.wanted ≡ false
  not_past = ap (λ (w : World). earlier_place (place 3 0) w.receiver.progress.wanted) run2 ∙ ap (earlier_place (place 3 0)) bring0.wants

  bring3 : Brings coding_lawful sound 3 last3 (astray finished0) sent3.blocks (arrival 3 0 (before_last kind) (Estimated modulus))
  bring3 =
      subst (λ (t : Tick). Brings coding_lawful sound 3 (last_in Second 3 t) (astray finished0) sent3.blocks (arrival 3 0 (before_last kind) t)) tick3
      (from_start coding_lawful sound 3 sent3 (at 3 sent3 refl) (before_last kind) sent3.blocks (own sent3) (some_left kind) ((sound.whole 3 sent3 (at 3 sent3 refl)).count ∙ grey_parts kind two) (sym (grey_parts kind two))
      (astray finished0) (held_astray coding_lawful sound finished0 bring0.held) (grey_refresh kind two) refl (ap (earlier_place (place 3 0)) bring0.wants) last0 bring0.leaves)

  bring4 : Brings coding_lawful sound 4 (last_in First 4 (Estimated (2 * modulus))) bring3.last sent4.blocks (picture 4 (Estimated (2 * modulus)) ∷ [])
  bring4 =
      subst (λ (t : Tick). Brings coding_lawful sound 4 (last_in First 4 t) bring3.last sent4.blocks (picture 4 t ∷ [])) tick4
      (from_part coding_lawful sound 4 sent4 (at 4 sent4 refl) 0 0 sent4.blocks (own sent4) ((sound.whole 4 sent4 (at 4 sent4 refl)).count ∙ still_parts kind) (sym (still_parts kind))
      bring3.last bring3.held (ap is_lost bring3.stands) bring3.wants last3 bring3.leaves)

  said_are : answers coding_of opening_world ((sent0.blocks ++ sent2.blocks) ++ (sent3.blocks ++ sent4.blocks))
      ≡ arrival 0 0 (before_last kind) (Exact 0) ++ (lost ∷ (arrival 3 0 (before_last kind) (Estimated modulus) ++ (picture 4 (Estimated (2 * modulus)) ∷ [])))
  said_are =
      answers-append coding_of opening_world (sent0.blocks ++ sent2.blocks) (sent3.blocks ++ sent4.blocks)
      ∙ (λ i. until i ++ later i)
      ∙ append_assoc (arrival 0 0 (before_last kind) (Exact 0)) (lost ∷ []) (arrival 3 0 (before_last kind) (Estimated modulus) ++ (picture 4 (Estimated (2 * modulus)) ∷ []))
    where
      until : answers coding_of opening_world (sent0.blocks ++ sent2.blocks) ≡ arrival 0 0 (before_last kind) (Exact 0) ++ (lost ∷ [])
      until =
          answers-append coding_of opening_world sent0.blocks sent2.blocks
          ∙ (λ i. bring0.said_are i ++ (ap (λ (w : World). answers coding_of w sent2.blocks) bring0.is ∙ lost2) i)

      later : answers coding_of (world_given (step coding_of) opening_world (sent0.blocks ++ sent2.blocks)) (sent3.blocks ++ sent4.blocks) ≡ arrival 3 0 (before_last kind) (Estimated modulus) ++ (picture 4 (Estimated (2 * modulus)) ∷ [])
      later =
          ap (λ (w : World). answers coding_of w (sent3.blocks ++ sent4.blocks)) run2
          ∙ answers-append coding_of (world_at 1 kind (astray finished0)) sent3.blocks sent4.blocks
          ∙ (λ i. bring3.said_are i ++ (ap (λ (w : World). answers coding_of w sent4.blocks) bring3.is ∙ bring4.said_are) i)

  -- ---- all of them are blocks of the clip
  abbrev Of : List (List ℕ) → Type 0
  Of = Each (blocks_in coding_of (example kind))

  of_picture : (p : ℕ) (x : Picture Flat) → At p x → Of x.blocks
  of_picture p x e =
      each_of (blocks_in coding_of (example kind)) x.blocks
      (λ b m. subst (Memᴰ b) (sym (clip_in_turn coding_of (opening coding_of (example kind)) (example kind).calls)) (member_in sent p x e b m))

  of_append : (a b : List (List ℕ)) → Of a → Of b → Of (a ++ b)
  of_append [] b s t = t
  of_append (block ∷ a) b s t = (s.0, of_append a b s.1 t)

  of_until : Of (sent0.blocks ++ sent2.blocks)
  of_until = of_append sent0.blocks sent2.blocks (of_picture 0 sent0 (at 0 sent0 refl)) (of_picture 2 sent2 (at 2 sent2 refl))

  -- ---- so it catches up
  abbrev Steps : ℕ → World → List (List ℕ) → Type 0
  Steps = InStepAt (step coding_of) shown_by sent

  in_step_0 : Steps 0 opening_world sent0.blocks
  unfolding world_given
  in_step_0 =
      subst (Steps 0 opening_world) (append-nil sent0.blocks)
      (codings_meet.catches_up (example kind) (newcomer kind) (newcomer_named kind) [] tt 0 sent0 (at 0 sent0 refl) (grey_refresh kind one) refl sent0.blocks [] (own_arrive sent 0 sent0 (at 0 sent0 refl)) tt)

  abbrev strayed : World
  strayed = world_given (step coding_of) opening_world (sent0.blocks ++ sent2.blocks)

  module _ (later : List (List (List ℕ))) (follow : Follow sent (3 + 1) later) where
    caught_up : Steps (3 + length later) (world_given (step coding_of) opening_world (sent0.blocks ++ sent2.blocks)) (sent3.blocks ++ in_turn later)
    caught_up =
        codings_meet.catches_up (example kind) (newcomer kind) (newcomer_named kind) (sent0.blocks ++ sent2.blocks) of_until 3 sent3 (at 3 sent3 refl) (grey_refresh kind two) not_past sent3.blocks later
        (own_arrive sent 3 sent3 (at 3 sent3 refl)) follow

  pub example_meets : Delivered example-sent
  unfolding example-sent
  example_meets = record {
    named = newcomer_named kind;
    each = of_append (sent0.blocks ++ sent2.blocks) (sent3.blocks ++ sent4.blocks) of_until (of_append sent3.blocks sent4.blocks (of_picture 3 sent3 (at 3 sent3 refl)) (of_picture 4 sent4 (at 4 sent4 refl)));
    said = said_are;
    at_0 = in_step_0;
    is_lost = ap (λ (w : World). w.receiver.progress.standing) run2;
    wants = ap (λ (w : World). w.receiver.progress.wanted) run2 ∙ bring0.wants;
    at_3 = subst (Steps 3 strayed) (append-nil sent3.blocks) (caught_up [] tt);
    at_4 = subst (λ (l : List (List ℕ)). Steps 4 strayed (sent3.blocks ++ l)) (append-nil sent4.blocks) (caught_up (sent4.blocks ∷ []) (own_arrive sent 4 sent4 (at 4 sent4 refl), tt));
  }

-- picture 2 is one block
pub one-gap : (kind : Kind) → (b : List ℕ) × ((example-sent kind).picture2.blocks ≡ b ∷ [])
unfolding example-sent
one-gap kind = block2 kind

-- THE THEOREM
pub example_delivered : ExampleDelivered
example_delivered kind = (example-sent kind, example_meets kind)
