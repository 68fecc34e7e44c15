-- The wrong receivers that document 01 names don't meet demand 3: each is given blocks of the example (instances); nor does one that needs two refreshes meet T-14. Assumes nothing.
use mathlib.Core.Path.{◌≡◌, refl, sym, ap, subst, ◌∙◌}
use mathlib.Core.Bool.{Bool, true, false, true≢false}
use mathlib.Core.Logic.{◌⊎◌, inl, inr}
use mathlib.Core.List.{List, [], ◌∷◌, ◌++◌, append-nil}
use mathlib.Core.Option.{some, some-injective}
use Prim.Native.Nat.{ℕ, ◌+◌, ◌<◌}
use native.Mathlib.Omega.{arith}
use borrow.Author.Tests.{eqb-false, ltb-false}
use lib.Dec.{eqb, ltb, lit<}
use lib.ListN.{get_elem?, get_or}
use Rattle.laws.specs.Choice.{both, either, opposite}
use Rattle.layout.specs.Flat.{Flat}
use Rattle.coding.specs.Kind.{coding_of}
use Rattle.coding.proofs.AllLawful.{coding_lawful}
use Rattle.standing.specs.declared.Receiver.{Receiver}
use Rattle.standing.specs.declared.Standing.{Standing}
use Rattle.standing.specs.Receive.{place, earlier_place, same_place, is_lost, fresh_receiver, Buffers, Outcome, step}
use Rattle.standing.specs.Run.{World}
use Rattle.demand3.specs.Clip.{Picture, PartOf, Clip, blocks_in, pictures_in, begin, Each, Receive, Show, after_block, world_given, Shows}
use Rattle.demand3.specs.Arrives.{InStepAt}
use Rattle.demand3.specs.Demand3.{CatchesUp}
use Rattle.demand3.specs.Soon.{InOrder, here, next, onward, Soon}
use Rattle.demand3.proofs.Held.{lost_in_step}
use Rattle.demand3.proofs.InStep.{sound_clip}
use Rattle.demand3.proofs.WholeClip.{own_arrive, whole_clip}
use Rattle.demand3.proofs.Calls.{each_of, given_append, always, Ends, ends}
use Rattle.instances.specs.Uniform.{grey}
use Rattle.instances.specs.Example.{newcomer, example}
use Rattle.instances.specs.Instances.{Example, Delivered, astray}
use Rattle.instances.specs.Bound.{sparse_clip, Bound}
use Rattle.instances.proofs.Codes.{Code, one, two, code_of}
use Rattle.instances.proofs.Sending.{newcomer_named}
use Rattle.instances.proofs.Instances.{example-sent, example_meets, one-gap, each_parts}
use Rattle.instances.proofs.Bound.{plain_between, none_after, bound_reached}
use Rattle.wrong.specs.WrongReceivers.{IdleWrong, LostWrong, NeverInStepWrong, was_lost, LostForEverWrong, Delivery, comes_to, OnlyRefreshWrong, RenumberingWrong, TwoRefreshes, TwoRefreshesWrong}
use Rattle.wrong.proofs.WrongPrograms.{qcif}
use Rattle.wrong.proofs.Sampled.{grey_sample}
use Rattle.standing.specs.declared.Standing.TheVariants as T

-- ---- the example in H.261's QCIF, and a fresh receiver
abbrev clip : Clip Flat
clip = example qcif

abbrev sent : List (Picture Flat)
sent = pictures_in coding_of clip

abbrev x : Example qcif
x = example-sent qcif

abbrev opened : World
opened = begin (newcomer qcif)

at : (p : ℕ) (y : Picture Flat) → get_elem? (x.picture0 ∷ x.picture1 ∷ x.picture2 ∷ x.picture3 ∷ x.picture4 ∷ []) p ≡ some y → get_elem? sent p ≡ some y
at p y e = ap (λ (l : List (Picture Flat)). get_elem? l p) x.sent ∙ e

-- their blocks are the clip's
until_loss : Each (blocks_in coding_of clip) (x.picture0.blocks ++ x.picture2.blocks) × Each (blocks_in coding_of clip) (x.picture3.blocks ++ x.picture4.blocks)
until_loss = each_parts (blocks_in coding_of clip) (x.picture0.blocks ++ x.picture2.blocks) (x.picture3.blocks ++ x.picture4.blocks) (example_meets qcif).each

each0 : Each (blocks_in coding_of clip) x.picture0.blocks
each0 = (each_parts (blocks_in coding_of clip) x.picture0.blocks x.picture2.blocks until_loss.0).0

each3 : Each (blocks_in coding_of clip) x.picture3.blocks
each3 = (each_parts (blocks_in coding_of clip) x.picture3.blocks x.picture4.blocks until_loss.1).0

module _ {receive : Receive} {show : Show} (catches : CatchesUp coding_of receive show) where
  -- with all blocks it is in step at picture 4
  all_come : InStepAt receive show sent 4 opened (blocks_in coding_of clip)
  all_come = whole_clip Flat coding_of coding_lawful receive show catches clip (newcomer qcif) (newcomer_named qcif) x.picture0 (x.picture1 ∷ x.picture2 ∷ x.picture3 ∷ x.picture4 ∷ []) x.sent

  -- with those of a refresh alone, at that one
  alone : (p : ℕ) (y : Picture Flat) → get_elem? sent p ≡ some y → (coding_of qcif).refresh y.description ≡ true → earlier_place (place p 0) (place 0 0) ≡ false → InStepAt receive show sent (p + 0) opened y.blocks
  unfolding world_given
  alone p y e r n =
      subst (λ (l : List (List ℕ)). InStepAt receive show sent (p + 0) opened l) (append-nil y.blocks)
      (catches clip (newcomer qcif) (newcomer_named qcif) [] tt p y e r n y.blocks [] (own_arrive sent p y e) tt)

  -- ---- wrong: "a receiver that does nothing or is lost for ever"
  -- no receiver may still be what a fresh one is, by whatever excludes that it is in step
  staying : (P : Receiver → Type 0) → P (fresh_receiver 1 qcif) → ((r : Receiver) (block : List ℕ) (b : Buffers) → P r → P (receive r block b).gave.next)
      → ((r : Receiver) → P r → r.progress.standing ≡ T.InStep 4 → ⊥) → ⊥
  staying P begins on never =
      let e : Ends receive show sent 4 opened (blocks_in coding_of clip) = ends receive all_come in
      let stays : P (world_given receive opened (blocks_in coding_of clip)).receiver =
      always receive (λ (v : World). P v.receiver) (λ v block p. on v.receiver block v.lent p) opened begins (blocks_in coding_of clip) in
      never e.last.gave.next (subst (λ (v : World). P v.receiver) e.is stays) e.stands

pub idle_wrong : IdleWrong
idle_wrong receive show idle catches =
    staying catches (λ (r : Receiver). r.progress.standing ≡ T.Lost) refl (λ r block b e. ap (λ (s : Receiver). s.progress.standing) (idle r block b) ∙ e) (λ r e s. lost_in_step 4 (sym e ∙ s))

pub lost_wrong : LostWrong
lost_wrong receive show stays catches = staying catches (λ (r : Receiver). r.progress.standing ≡ T.Lost) refl stays (λ r e s. lost_in_step 4 (sym e ∙ s))

pub never_in_step_wrong : NeverInStepWrong
never_in_step_wrong receive show never catches =
    staying catches (λ (r : Receiver). r.progress.standing ≡ T.InStep 4 → ⊥) (lost_in_step 4) (λ r block b _ e. never r block b 4 e) (λ r p e. p e)

-- ---- wrong: lost for ever after its first loss
was_in_step : (r : Receiver) (k : ℕ) → r.progress.standing ≡ T.InStep k → was_lost r ≡ false
was_in_step r k e = ap (λ (t : Standing). both (is_lost t) (opposite (same_place r.progress.wanted (place 0 0)))) e

module _ {receive : Receive} {show : Show} (ours : (r : Receiver) (block : List ℕ) (b : Buffers) → was_lost r ≡ false → receive r block b ≡ step coding_of r block b)
    (for_ever : (r : Receiver) (block : List ℕ) (b : Buffers) → was_lost r ≡ true → was_lost (receive r block b).gave.next ≡ true) (catches : CatchesUp coding_of receive show) where
  goes_on : (w : World) (blocks : List (List ℕ)) → was_lost w.receiver ≡ true → was_lost (world_given receive w blocks).receiver ≡ true
  goes_on w blocks e =
      always receive (λ (v : World). was_lost v.receiver ≡ true) (λ v block p. for_ever v.receiver block v.lent p) w e blocks

  as_ours : (w : World) (block : List ℕ) → was_lost w.receiver ≡ false → after_block receive w block ≡ after_block (step coding_of) w block
  as_ours w block e = ap (λ (o : Outcome). record { receiver = o.gave.next; lent = o.left }) (ours w.receiver block w.lent e)

  -- it is where ours is, or lost for ever
  two_ways : (w : World) (blocks : List (List ℕ)) → (world_given receive w blocks ≡ world_given (step coding_of) w blocks) ⊎ (was_lost (world_given receive w blocks).receiver ≡ true)
  unfolding world_given
  two_ways w [] = inl refl
  two_ways w (block ∷ blocks) = go (was_lost w.receiver) refl (λ v. two_ways v blocks)
    where
      go : (t : Bool) → was_lost w.receiver ≡ t → ((v : World) → (world_given receive v blocks ≡ world_given (step coding_of) v blocks) ⊎ (was_lost (world_given receive v blocks).receiver ≡ true))
          → (world_given receive (after_block receive w block) blocks ≡ world_given (step coding_of) (after_block (step coding_of) w block) blocks) ⊎ (was_lost (world_given receive (after_block receive w block) blocks).receiver ≡ true)
      go true e on = inr (goes_on (after_block receive w block) blocks (for_ever w.receiver block w.lent e))
      go false e on =
          subst (λ (v : World). (world_given receive (after_block receive w block) blocks ≡ world_given (step coding_of) v blocks) ⊎ (was_lost (world_given receive (after_block receive w block) blocks).receiver ≡ true)) (as_ours w block e)
          (on (after_block receive w block))

  -- in step at picture 0, it is where ours is
  first_come : Ends receive show sent 0 opened x.picture0.blocks
  first_come = ends receive (alone catches 0 x.picture0 (at 0 x.picture0 refl) x.refresh0 refl)

  not_lost : was_lost (world_given receive opened x.picture0.blocks).receiver ≡ false
  not_lost = was_in_step (world_given receive opened x.picture0.blocks).receiver 0 (ap (λ (w : World). w.receiver.progress.standing) first_come.is ∙ first_come.stands)

  there : world_given receive opened x.picture0.blocks ≡ world_given (step coding_of) opened x.picture0.blocks
  there = go (two_ways opened x.picture0.blocks)
    where
      go : (world_given receive opened x.picture0.blocks ≡ world_given (step coding_of) opened x.picture0.blocks) ⊎ (was_lost (world_given receive opened x.picture0.blocks).receiver ≡ true)
          → world_given receive opened x.picture0.blocks ≡ world_given (step coding_of) opened x.picture0.blocks
      go (inl e) = e
      go (inr e) = absurd (true≢false (sym e ∙ not_lost))

  -- so picture 2's block finds it lost, as ours
  astray_too : world_given receive opened (x.picture0.blocks ++ x.picture2.blocks) ≡ astray x
  unfolding world_given
  astray_too =
      given_append receive opened x.picture0.blocks x.picture2.blocks
      ∙ ap (world_given receive (world_given receive opened x.picture0.blocks)) (one-gap qcif).1
      ∙ as_ours (world_given receive opened x.picture0.blocks) (one-gap qcif).0 not_lost
      ∙ ap (λ (w : World). after_block (step coding_of) w (one-gap qcif).0) there
      ∙ ap (world_given (step coding_of) (world_given (step coding_of) opened x.picture0.blocks)) (sym (one-gap qcif).1)
      ∙ sym (given_append (step coding_of) opened x.picture0.blocks x.picture2.blocks)

  abbrev d : Delivered x
  d = example_meets qcif

  lost_there : was_lost (world_given receive opened (x.picture0.blocks ++ x.picture2.blocks)).receiver ≡ true
  lost_there = ap (λ (w : World). was_lost w.receiver) astray_too ∙ (λ i. both (is_lost (d.is_lost i)) (opposite (same_place (d.wants i) (place 0 0))))

  -- but at picture 3 it must be in step
  never_again : ⊥
  never_again =
      let until : List (List ℕ) = x.picture0.blocks ++ x.picture2.blocks in
      let e : Ends receive show sent 3 (world_given receive opened until) (x.picture3.blocks ++ []) =
      ends receive
      (catches clip (newcomer qcif) (newcomer_named qcif) until until_loss.0 3 x.picture3 (at 3 x.picture3 refl) x.refresh3
      (ap (λ (w : World). earlier_place (place 3 0) w.receiver.progress.wanted) astray_too ∙ ap (earlier_place (place 3 0)) d.wants) x.picture3.blocks [] (own_arrive sent 3 x.picture3 (at 3 x.picture3 refl)) tt) in
      true≢false (sym (goes_on (world_given receive opened until) (x.picture3.blocks ++ []) lost_there) ∙ was_in_step (world_given receive (world_given receive opened until) (x.picture3.blocks ++ [])).receiver 3 (ap (λ (w : World). w.receiver.progress.standing) e.is ∙ e.stands))

pub lost_for_ever_wrong : LostForEverWrong
lost_for_ever_wrong receive show ours for_ever catches = never_again ours for_ever catches

-- ---- blocks that end in step are a delivery
module _ {receive : Receive} {show : Show} {k : ℕ} {blocks : List (List ℕ)} (each : Each (blocks_in coding_of clip) blocks) (so : InStepAt receive show sent k opened blocks) where
  abbrev delivery : Delivery
  delivery =
      let both = each_parts (blocks_in coding_of clip) so.before (so.block ∷ []) (subst (Each (blocks_in coding_of clip)) so.is each) in
      record { clip = clip; receiver = newcomer qcif; before = so.before; block = so.block; each = both.0; one = both.1.0 }

  -- it shows that picture's store
  shows : (y : Picture Flat) → get_elem? sent k ≡ some y → show (comes_to receive delivery).gave (comes_to receive delivery).left.both ≡ y.store
  shows y e =
      let s : Shows sent (T.InStep k) (show (comes_to receive delivery).gave (comes_to receive delivery).left.both) =
      subst (λ (t : Standing). Shows sent t (show (comes_to receive delivery).gave (comes_to receive delivery).left.both)) so.stands so.right in
      s.2 ∙ ap (λ (z : Picture Flat). z.store) (some-injective s.0 y (sym s.1 ∙ e))

-- ---- wrong: one that "finishes only refresh pictures". Picture 4 is none
pub only_refresh_wrong : OnlyRefreshWrong
only_refresh_wrong receive show only catches =
    let so : InStepAt receive show sent 4 opened (blocks_in coding_of clip) = all_come catches in
    true≢false (sym (only (delivery (each_of (blocks_in coding_of clip) (blocks_in coding_of clip) (λ b m. m)) so) 4 x.picture4 so.stands (at 4 x.picture4 refl)) ∙ x.plain4)

-- ---- wrong: "one that decodes picture 0 and then only renumbers it". Pictures 0 and 3 have other samples
first_sample : (k : ℕ) (y : Picture Flat) (c : Code) → get_elem? sent k ≡ some y → y.description ≡ grey qcif (code_of c) → get_or y.store 0 0 ≡ code_of c
unfolding coding_of
first_sample k y c e q =
    let drawn = (sound_clip coding_lawful clip).drawn k y e in
    ap (λ (l : List ℕ). get_or l 0 0) (drawn.1 ∙ ap (λ (z : Flat). (coding_of qcif).render z drawn.0) q) ∙ grey_sample c drawn.0

pub renumbering_wrong : RenumberingWrong
renumbering_wrong receive show made only catches =
    let at0 = at 0 x.picture0 refl in
    let at3 = at 3 x.picture3 refl in
    let so0 : InStepAt receive show sent 0 opened x.picture0.blocks = alone catches 0 x.picture0 at0 x.refresh0 refl in
    let so3 : InStepAt receive show sent 3 opened x.picture3.blocks = alone catches 3 x.picture3 at3 x.refresh3 refl in
    let same0 : x.picture0.store ≡ made x.picture0 = sym (shows each0 so0 x.picture0 at0) ∙ only (delivery each0 so0) 0 x.picture0 so0.stands at0 in
    let same3 : x.picture3.store ≡ made x.picture0 = sym (shows each3 so3 x.picture3 at3) ∙ only (delivery each3 so3) 3 x.picture0 so3.stands at0 in
    let z : ◌≡◌ {A = ℕ} 1 2 =
    sym (first_sample 0 x.picture0 one at0 x.described0) ∙ ap (λ (l : List ℕ). get_or l 0 0) (same0 ∙ sym same3) ∙ first_sample 3 x.picture3 two at3 x.described3 in
    omega arith

-- ---- wrong: one that needs two refreshes. From part 1 of picture 12 on there is one, picture 24 (instances, Bound)
-- blocks in order, as far as some of them go
order_split : {sent : List (Picture Flat)} {q last p part : ℕ} {blocks : List (List ℕ)} → InOrder sent q last p part blocks → (a b : List (List ℕ)) → blocks ≡ a ++ b → (q' last' : ℕ) × InOrder sent q' last' p part a
order_split {q} {last} here [] b e = (q, last, here)
order_split here (block ∷ a) b e = let z : ◌≡◌ {A = ℕ} 0 1 = cc in absurd (omega arith)
order_split {p = p} {part = part} (next h o) [] b e = (p, part, here)
order_split {sent} {p = p} (next {part = part} {block = own} {blocks = blocks} h o) (block ∷ a) b e =
    let same : own ≡ block = cc in
    let rest : blocks ≡ a ++ b = cc in
    let s = order_split o a b rest in
    (s.0, s.1, next (subst (λ (l : List ℕ). PartOf sent p part l) same h) s.2)
order_split {p = p} {part = part} (onward y k n o) [] b e = (p, part, here)
order_split (onward y k n o) (block ∷ a) b e = let s = order_split o (block ∷ a) b e in (s.0, s.1, onward y k n s.2)

after_twelve : (p : ℕ) → earlier_place (place p 0) (place 12 1) ≡ false → 12 < p
after_twelve p e = go (ltb p 12) (eqb p 12) refl refl e
  where
    go : (a b : Bool) → ltb p 12 ≡ a → eqb p 12 ≡ b → either a (both b true) ≡ false → 12 < p
    go true b l m n = absurd (true≢false n)
    go false true l m n = absurd (true≢false n)
    go false false l m n = let z = ltb-false p 12 l in let d = eqb-false p 12 m in omega (arith, z, d)

-- the second of two after picture 12 would be past the clip's end
no_two : (q : ℕ) → TwoRefreshes (sparse_clip qcif) 12 1 q → ⊥
no_two q t =
    let low : 12 < t.first = after_twelve t.first t.from in
    let high : t.second < 25 = none_after qcif t.second t.at_second.0 t.at_second.1 in
    let less : t.first < t.second = t.less in
    true≢false (sym t.at_first.2 ∙ plain_between qcif t.first t.at_first.0 t.at_first.1 low (omega (arith, high, less)))

pub two_refreshes_wrong : TwoRefreshesWrong
unfolding world_given
two_refreshes_wrong receive show needs back =
    let b : Bound qcif = bound_reached qcif in
    let given : List (List ℕ) = b.before ++ (b.last ∷ []) in
    let w : World = begin (newcomer qcif) in
    let s : Soon receive show (pictures_in coding_of (sparse_clip qcif)) 24 w given =
    back (sparse_clip qcif) (newcomer qcif) (newcomer_named qcif) b.every [] tt 12 1 refl 25 0 given b.in_order (lit< tt) in
    let o = order_split b.in_order s.upto s.rest s.is in
    let e : Ends receive show (pictures_in coding_of (sparse_clip qcif)) s.k w s.upto = ends receive s.finishes in
    no_two o.0 (needs (sparse_clip qcif) (newcomer qcif) o.0 o.1 12 1 s.upto o.2 s.k (ap (λ (v : World). v.receiver.progress.standing) e.is ∙ e.stands))
