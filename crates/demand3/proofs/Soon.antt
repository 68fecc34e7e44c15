-- Back in step, and how soon (document 02, T-14): a refresh stands among the pictures after the first one's, the receiver wants nothing later by then, and so it catches up there and takes
-- each block after it. Assumes nothing.
use mathlib.Core.Path.{◌≡◌, refl, sym, ap, subst, ◌∙◌}
use mathlib.Core.Bool.{Bool, true, false}
use mathlib.Core.Logic.{◌⊎◌, inl, inr, ⊎_elim}
use mathlib.Core.List.{List, [], ◌∷◌, ◌++◌, append_assoc}
use mathlib.Core.Option.{some, some-injective}
use Prim.Native.Nat.{ℕ, zero, suc, ◌+◌, ◌≤◌, ◌<◌}
use native.Mathlib.Nat.{ne_of_lt}
use native.Mathlib.Omega.{arith}
use borrow.Author.Tests.{eqb-true, eqb-false, ltb-false}
use lib.Dec.{eqb, ltb}
use lib.ListN.{length, get_elem?}
use Rattle.laws.specs.Choice.{either}
use Rattle.coding.specs.declared.Kind.{Kind}
use Rattle.layout.specs.Flat.{Flat}
use Rattle.coding.specs.Coding.{Coding}
use Rattle.coding.specs.Kind.{coding_of, AllLawful}
use Rattle.coding.proofs.AllLawful.{coding_lawful}
use Rattle.standing.specs.declared.Place.{Place}
use Rattle.standing.specs.declared.Standing.{Standing}
use Rattle.standing.specs.declared.Receiver.{Receiver}
use Rattle.standing.specs.Receive.{place, earlier_place, is_lost, step}
use Rattle.standing.specs.Run.{World}
use Rattle.standing.specs.Shown.{shown_by}
use Rattle.demand3.specs.Clip.{Picture, Clip, pictures_in, opening, begin, Receive, Show, world_given, Shows}
use Rattle.demand3.specs.Arrives.{Arrives, InStepAt}
use Rattle.demand3.specs.Demand3.{InStep}
use Rattle.demand3.specs.Soon.{Delivered, last_call, InOrder, here, next, onward, StaysInStep, Soon, BackInStep, ShowEqualAlways, BackInStepAlways, BackInStepBy12}
use Rattle.demand3.proofs.Sent.{none-some}
use Rattle.demand3.proofs.Step.{Moment, world_at, refresh_of, Comes}
use Rattle.demand3.proofs.Held.{Sound, Held, Goes, step_held, after_comes, Parts, Runs, run_held}
use Rattle.demand3.proofs.InStep.{receiver_opened, start, sound_clip, each_part, start_held}
use Rattle.demand3.proofs.CatchingUp.{not_earlier, block_count, Ready, awaiting, starting, Complete, wanted_next, no_next, Ends, joined, ends, not_none, at_last, some_parts, parts_split}
use Rattle.standing.specs.declared.Standing.TheVariants as T
use Rattle.demand3.specs.Arrives as W

-- ---- two deliveries
same_shown : {D : Type 0} (sent : List (Picture D)) (k : ℕ) (a b : List ℕ) → Shows sent (T.InStep k) a → Shows sent (T.InStep k) b → a ≡ b
same_shown sent k a b x y = x.2 ∙ ap (λ (p : Picture _). p.store) (some-injective x.0 y.0 (sym x.1 ∙ y.1)) ∙ sym y.2

module _ {D : Type 0} {coding : Kind → Coding D} (receive : Receive) (show : Show) (right : InStep coding receive show) (c : Clip D) where
  shown_at : (x : Delivered coding c) (k : ℕ) → (last_call receive x).gave.next.progress.standing ≡ T.InStep k
      → Shows (pictures_in coding c) (T.InStep k) (show (last_call receive x).gave (last_call receive x).left.both)
  shown_at x k e =
      subst (λ (s : Standing). Shows (pictures_in coding c) s (show (last_call receive x).gave (last_call receive x).left.both)) e (right c x.receiver x.blocks x.block x.each x.one)

pub show_equal : ShowEqualAlways
show_equal D coding receive show right c x y k e f =
    same_shown (pictures_in coding c) k (show (last_call receive x).gave (last_call receive x).left.both) (show (last_call receive y).gave (last_call receive y).left.both)
    (shown_at receive show right c x k e) (shown_at receive show right c y k f)

-- ---- a clip goes as far as its blocks
pub some_inside : {A : Type 0} (l : List A) (i : ℕ) (a : A) → get_elem? l i ≡ some a → i < length l
some_inside [] i a e = absurd (none-some a e)
some_inside (b ∷ l) zero a e = omega arith
some_inside (b ∷ l) (suc i) a e = let below = some_inside l i a e in omega (arith, below)

goes_far : {D : Type 0} (sent : List (Picture D)) {q last p part : ℕ} {blocks : List (List ℕ)} → InOrder sent q last p part blocks → p < q → q ≤ length sent
goes_far sent here l = absurd (omega (arith, l))
goes_far sent (next h o) l = goes_far sent o l
goes_far sent {q} {p = p} (onward x at e o) l = go (λ k. goes_far sent o k) (eqb (p + 1) q) refl
  where
    go : (p + 1 < q → q ≤ length sent) → (b : Bool) → eqb (p + 1) q ≡ b → q ≤ length sent
    go below true s = let i = some_inside sent p x at in let n = eqb-true (p + 1) q s in omega (arith, i, n)
    go below false s = let d = eqb-false (p + 1) q s in below (omega (arith, l, d))

-- ---- places
not_later : (j part : ℕ) (w : Place) → earlier_place (place j part) w ≡ false → w.picture ≤ j
not_later j part w e = ltb-false j w.picture (first (ltb j w.picture) _ e)
  where
    first : (a b : Bool) → either a b ≡ false → a ≡ false
    first true b q = q
    first false b q = refl

-- the refresh's first part is not earlier than a place in a picture before it
before_refresh : (f : ℕ) (w : Place) → w.picture < f → earlier_place (place f 0) w ≡ false
before_refresh f w l = not_earlier f 0 w.picture w.part (omega (arith, l)) (λ e. absurd (omega (arith, l, e)))

module _ {D : Type 0} {coding : Kind → Coding D} (lawful : AllLawful coding) {clip : ℕ} {kind : Kind} {sent : List (Picture D)} (sound : Sound coding clip kind sent) where
  order_parts : {q last p part : ℕ} {blocks : List (List ℕ)} → InOrder sent q last p part blocks → Parts lawful sound blocks
  order_parts here = tt
  order_parts {q} {last} {p} (next {part = part} h o) = (record { p = p; part = part; is = h }, order_parts o)
  order_parts (onward x at e o) = order_parts o

  -- ---- up to picture f
  record Reached (f q last : ℕ) (m : Moment) (blocks : List (List ℕ)) : Type 0 where
    before : List (List ℕ)
    later : List (List ℕ)
    is : blocks ≡ before ++ later
    runs : Runs lawful sound m before
    wants : earlier_place (place f 0) runs.last.wanted ≡ false
    goes_on : InOrder sent q last f 0 later

  -- a block of a picture before f
  one_more : (f q last p part : ℕ) (m : Moment) (block : List ℕ) (blocks : List (List ℕ)) (g : Goes lawful sound p part m block) → Reached f q last g.next blocks → Reached f q last m (block ∷ blocks)
  unfolding world_given
  one_more f q last p part m block blocks g r = record {
    before = block ∷ r.before;
    later = r.later;
    is = ap (λ (l : List (List ℕ)). block ∷ l) r.is;
    runs = record {
      last = r.runs.last;
      is = ap (λ (w : World). world_given (step coding) w r.before) (after_comes lawful sound m block g.next g.comes) ∙ r.runs.is;
      held = r.runs.held;
    };
    wants = r.wants;
    goes_on = r.goes_on;
  }

  still_before : (f p part : ℕ) (m : Moment) (block : List ℕ) (g : Goes lawful sound p part m block) → p < f → earlier_place (place f 0) m.wanted ≡ false → earlier_place (place f 0) g.next.wanted ≡ false
  still_before f p part m block g l e =
      ⊎_elim (λ s. ap (earlier_place (place f 0)) s ∙ e)
      (⊎_elim
      (λ s. ap (earlier_place (place f 0)) s ∙ not_earlier f 0 p (part + 1) (omega (arith, l)) (λ t. absurd (omega (arith, l, t))))
      (λ s. ap (earlier_place (place f 0)) s ∙ not_earlier f 0 (p + 1) 0 (omega (arith, l)) (λ _. omega arith)))
      g.wants

  reach : {q last p part : ℕ} {blocks : List (List ℕ)} (f : ℕ) → InOrder sent q last p part blocks → p < f → f < q → (m : Moment) → Held lawful sound m → earlier_place (place f 0) m.wanted ≡ false
      → Reached f q last m blocks
  unfolding world_given
  reach f here l k m held e = absurd (omega (arith, l, k))
  reach {q} {last} {p} f (next {part = part} {block = block} {blocks = blocks} h o) l k m held e =
      let g : Goes lawful sound p part m block = step_held lawful sound h m held in
      one_more f q last p part m block blocks g (reach f o l k g.next g.held (still_before f p part m block g l e))
  reach {q} {last} {p} {part} {blocks} f (onward x at n o) l k m held e = go (λ d. reach f o d k m held e) (eqb (p + 1) f) refl
    where
      go : (p + 1 < f → Reached f q last m blocks) → (b : Bool) → eqb (p + 1) f ≡ b → Reached f q last m blocks
      go below true s = record {
        before = [];
        later = blocks;
        is = refl;
        runs = record { last = m; is = refl; held = held };
        wants = e;
        goes_on = subst (λ (i : ℕ). InOrder sent q last i 0 blocks) (eqb-true (p + 1) f s) o;
      }
      go below false s = let d = eqb-false (p + 1) f s in below (omega (arith, l, d))

  -- ---- picture f's own blocks
  record OwnFirst (q last p part : ℕ) (blocks : List (List ℕ)) : Type 0 where
    own : List (List ℕ)
    later : List (List ℕ)
    is : blocks ≡ own ++ later
    arrives : Arrives sent p part own
    goes_on : InOrder sent q last (p + 1) 0 later

  own_first : {q last p part : ℕ} {blocks : List (List ℕ)} → InOrder sent q last p part blocks → p < q → OwnFirst q last p part blocks
  own_first here l = absurd (omega (arith, l))
  own_first {q} {last} {p} (next {part = part} {block = block} h o) l =
      let r = own_first o l in
      record { own = block ∷ r.own; later = r.later; is = ap (λ (z : List (List ℕ)). block ∷ z) r.is; arrives = W.next h r.arrives; goes_on = r.goes_on }
  own_first {blocks = blocks} (onward x at e o) l = record { own = []; later = blocks; is = refl; arrives = W.all x at e; goes_on = o }

  -- ---- after it
  -- in step at some picture, and this part is to come
  pub record Awaits (p part : ℕ) (m : Moment) : Type 0 where
    pub k : ℕ
    pub stands : m.standing ≡ T.InStep k
    pub wants : m.wanted ≡ place p part
    pub more : (x : Picture D) → get_elem? sent p ≡ some x → part < block_count lawful sound x

  -- the next picture's first part is
  awaits_next : (p k : ℕ) (m : Moment) → m.standing ≡ T.InStep k → m.wanted ≡ place p 0 → Awaits p 0 m
  awaits_next p k m s w = record { k = k; stands = s; wants = w; more = λ x at. some_parts lawful sound (length ((coding kind).written x.description)) ((lawful.each kind).has_bits x.description) }

  still_awaits : (p part k : ℕ) (m : Moment) → m.standing ≡ T.InStep k → Ready lawful sound p (part + 1) m → Awaits p (part + 1) m
  still_awaits p part k m s (awaiting l w more) = record { k = k; stands = s; wants = w; more = more }
  still_awaits p part k m s (starting z r e) = absurd (omega (arith, z))

  -- either this part is to come, or the picture is finished
  stays : {q last p part : ℕ} {blocks : List (List ℕ)} → InOrder sent q last p part blocks → (m : Moment) → Held lawful sound m → Awaits p part m ⊎ Complete lawful sound p part m
      → StaysInStep (step coding) (world_at clip kind m) blocks
  stays here m held s = tt
  stays {p = p} (next {part = part} {block = block} {blocks = blocks} h o) m held (inl a) =
      ⊎_elim
      (λ f. on_step f.goes.comes a.k (f.stands ∙ a.stands) (stays o f.goes.next f.goes.held (inl (still_awaits p part a.k f.goes.next (f.stands ∙ a.stands) f.goes.ready))))
      (λ c. on_step c.finishes.comes p c.complete.stands (stays o c.next c.held (inr c.complete)))
      (wanted_next lawful sound h m held (ap is_lost a.stands) (sym a.wants))
    where
      on_step : {n : Moment} → Comes lawful clip kind m block n → (k : ℕ) → n.standing ≡ T.InStep k → StaysInStep (step coding) (world_at clip kind n) blocks
          → StaysInStep (step coding) (world_at clip kind m) (block ∷ blocks)
      on_step {n} c k s rest =
          subst (λ (v : World). (k : ℕ) × (v.receiver.progress.standing ≡ T.InStep k) × StaysInStep (step coding) v blocks) (sym (after_comes lawful sound m block n c)) (k, s, rest)
  stays (next h o) m held (inr c) = absurd (no_next lawful sound h m held c)
  stays {p = p} (onward x at e o) m held (inl a) = absurd (ne_of_lt (a.more x at) (e ∙ (sound.whole p x at).count))
  stays {p = p} (onward x at e o) m held (inr c) = stays o m held (inl (awaits_next (p + 1) p m c.stands c.wants))

  -- ---- from any moment of a receiver of the clip
  in_step_by : (m : Moment) → Held lawful sound m → (f : ℕ) (upto : List (List ℕ)) → (upto ≡ [] → ⊥) → Ends lawful sound f m upto → Parts lawful sound upto
      → InStepAt (step coding) shown_by sent f (world_at clip kind m) upto
  in_step_by m held f [] n e t = absurd (n refl)
  in_step_by m held f (block ∷ blocks) n e t = at_last lawful sound m held f block blocks e t

  soon : (m : Moment) → Held lawful sound m → (most q last j part : ℕ) (blocks : List (List ℕ)) → InOrder sent q last j part blocks → earlier_place (place j part) m.wanted ≡ false
      → (f : ℕ) → j < f → f ≤ most → most < q → (x : Picture D) → get_elem? sent f ≡ some x → refresh_of coding kind x ≡ true
      → Soon (step coding) shown_by sent most (world_at clip kind m) blocks
  soon m held most q last j part blocks o w f l by end x at r =
      let wanted : m.wanted.picture ≤ j = not_later j part m.wanted w in
      let there : Reached f q last m blocks = reach f o l (omega (arith, by, end)) m held (before_refresh f m.wanted (omega (arith, wanted, l))) in
      let own : OwnFirst q last f 0 there.later = own_first there.goes_on (omega (arith, by, end)) in
      let mid : Moment = there.runs.last in
      let ended : Ends lawful sound f mid own.own =
      ends lawful sound own.arrives mid there.runs.held (starting refl (λ y g. subst (λ (z : Picture D). refresh_of coding kind z ≡ true) (some-injective x y (sym at ∙ g)) r) there.wants) in
      let split : blocks ≡ (there.before ++ own.own) ++ own.later =
      there.is ∙ ap (λ (l : List (List ℕ)). there.before ++ l) own.is ∙ sym (append_assoc there.before own.own own.later) in
      let whole : Ends lawful sound f m (there.before ++ own.own) = joined lawful sound f m mid there.before own.own there.runs.is ended in
      record {
        k = f;
        by = by;
        upto = there.before ++ own.own;
        rest = own.later;
        is = split;
        finishes =
            in_step_by m held f (there.before ++ own.own) (λ n. not_none lawful sound own.arrives refl (second_none there.before own.own n)) whole
            (parts_split lawful sound (there.before ++ own.own) own.later (subst (λ (b : List (List ℕ)). Parts lawful sound b) split (order_parts o))).0;
        stays =
            subst (λ (v : World). StaysInStep (step coding) v own.later) (sym whole.is)
            (stays own.goes_on whole.last whole.held (inl (awaits_next (f + 1) f whole.last whole.stands whole.wants)));
      }
    where
      second_none : (a b : List (List ℕ)) → a ++ b ≡ [] → b ≡ []
      second_none [] b e = e
      second_none (c ∷ a) b e = let z : ◌≡◌ {A = ℕ} 0 1 = cc in absurd (omega arith)

-- ---- from its opening
module _ {D : Type 0} {coding : Kind → Coding D} (lawful : AllLawful coding) where
  soon_always : (n : ℕ) → BackInStep coding (step coding) shown_by n
  soon_always n c r named every delivered each j part w q last blocks o reached =
      let sent : List (Picture D) = pictures_in coding c in
      let sound : Sound coding c.number c.kind sent = sound_clip lawful c in
      let ran : Runs lawful sound (start r.lent) delivered =
      run_held lawful sound (start r.lent) (start_held lawful sound r.lent named) delivered (each_part lawful (opening coding c) c.calls sound delivered each) in
      let is : world_given (step coding) (begin r) delivered ≡ world_at c.number c.kind ran.last =
      ap (λ (x : Receiver). world_given (step coding) (record { receiver = x; lent = r.lent }) delivered) (sym (receiver_opened c.number c.kind r.receiver r.is_open)) ∙ ran.is in
      let far : q ≤ length sent = goes_far sent o (omega (arith, reached)) in
      let refresh = every (j + 1) (omega (arith, far, reached)) in
      subst (λ (v : World). Soon (step coding) shown_by sent (j + n) v blocks) (sym is)
      (soon lawful sound ran.last ran.held (j + n) q last j part blocks o (subst (λ (v : World). earlier_place (place j part) v.receiver.progress.wanted ≡ false) is w)
      refresh.0 (omega (arith, refresh.1)) (omega (arith, refresh.2)) reached refresh.3 refresh.4 refresh.5)

-- THE THEOREMS
pub back_in_step : BackInStepAlways
back_in_step D coding lawful = soon_always lawful

pub back_in_step_by_12 : BackInStepBy12
back_in_step_by_12 = back_in_step Flat coding_of coding_lawful 12
