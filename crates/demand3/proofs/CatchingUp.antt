-- Demand 3, its last sentence: "Whenever all blocks of a fully INTRA picture, none earlier than the block it wants, arrive in order with at most older blocks between, it finishes
-- that picture in step, and so each next picture whose blocks follow on." Assumes nothing.
use mathlib.Core.Path.{◌≡◌, refl, sym, ap, subst, ◌∙◌}
use mathlib.Core.Bool.{Bool, true, false}
use mathlib.Core.Logic.{◌⊎◌, inl, inr, ⊎_elim}
use mathlib.Core.List.{List, [], ◌∷◌, ◌++◌, append-nil, append_assoc}
use mathlib.Core.Option.{some, some-injective}
use Prim.Native.Nat.{ℕ, suc, ◌+◌, ◌≤◌, ◌<◌}
use native.Mathlib.Nat.{add-zero, ne_of_lt}
use native.Mathlib.Omega.{arith}
use borrow.Author.Tests.{eqb-true, eqb-false, eq-eqb, ltb-true, le-ltb, lt-ltb}
use lib.Dec.{eqb, ltb}
use lib.ListN.{length, get_elem?}
use Rattle.laws.specs.Choice.{both, either, opposite}
use Rattle.laws.proofs.Choice.{two_of}
use Rattle.coding.specs.declared.Kind.{Kind}
use Rattle.vault.specs.Parts.{part_count}
use Rattle.ticks.specs.declared.Tick.{Tick}
use Rattle.standing.specs.Stores.{shown_store}
use Rattle.standing.specs.declared.Place.{Place}
use Rattle.standing.specs.declared.Standing.{Standing}
use Rattle.standing.specs.declared.Receiver.{Receiver}
use Rattle.coding.specs.Coding.{Coding}
use Rattle.coding.specs.Kind.{kind_size, AllLawful}
use Rattle.standing.specs.Receive.{place, earlier_place, same_place, is_lost, Outcome, step}
use Rattle.standing.specs.Run.{World}
use Rattle.standing.specs.Shown.{where_shown, shown_by}
use Rattle.demand3.specs.Clip.{Picture, PartOf, opening, pictures_in, begin, after_block, world_given, upon, Shows}
use Rattle.demand3.specs.Demand3.{CatchesUp}
use Rattle.demand3.specs.Theorems.{CatchesUpAlways}
use Rattle.demand3.proofs.Finished.{none_shown}
use Rattle.demand3.proofs.Step.{Moment, world_at, bits_of, refresh_of, Comes, Finishing, comes_old, Takes, takes_next, takes_anew}
use Rattle.demand3.proofs.Held.{Sound, not_lost, Held, Fits, block_of, fits_next, fits_anew, goes_further, goes_arrived, held_further, held_drawn, line_of_lem, Goes, step_held, after_comes, Parts, Runs, run_held}
use Rattle.demand3.proofs.InStep.{receiver_opened, start, sound_clip, each_part, start_held, upon_right}
use Rattle.standing.specs.declared.Standing.TheVariants as T
use Rattle.demand3.specs.Arrives as W

-- ---- places
either-false : (a b : Bool) → a ≡ false → b ≡ false → either a b ≡ false
either-false a b p q = rw p q

either_cases : (a b : Bool) → either a b ≡ true → (a ≡ true) ⊎ (b ≡ true)
either_cases true b e = inl refl
either_cases false b e = inr e

both_false : (a b : Bool) → (a ≡ true → b ≡ false) → both a b ≡ false
both_false true b h = h refl
both_false false b h = refl

-- earlier, as numbers
earlier_than : (p part q n : ℕ) → earlier_place (place p part) (place q n) ≡ true → (p < q) ⊎ ((p ≡ q) × (part < n))
earlier_than p part q n e = ⊎_elim (λ l. inl (ltb-true p q l)) (λ s. let t = two_of (eqb p q) (ltb part n) s in inr (eqb-true p q t.0, ltb-true part n t.1)) (either_cases (ltb p q) _ e)

is_earlier : (p part q n : ℕ) → (p < q) ⊎ ((p ≡ q) × (part < n)) → earlier_place (place p part) (place q n) ≡ true
is_earlier p part q n (inl l) = rw (lt-ltb p q l)
is_earlier p part q n (inr t) = go (ltb p q)
  where
    go : (b : Bool) → either b (both (eqb p q) (ltb part n)) ≡ true
    go true = refl
    go false = rw (eq-eqb p q t.0, lt-ltb part n t.1)

pub not_earlier : (p part q n : ℕ) → q ≤ p → (p ≡ q → n ≤ part) → earlier_place (place p part) (place q n) ≡ false
not_earlier p part q n l h = either-false (ltb p q) _ (le-ltb p q l) (both_false (eqb p q) (ltb part n) (λ e. le-ltb part n (h (eqb-true p q e))))

module _ {D : Type 0} {coding : Kind → Coding D} (lawful : AllLawful coding) {clip : ℕ} {kind : Kind} {sent : List (Picture D)} (sound : Sound coding clip kind sent) where
  abbrev pub block_count : Picture D → ℕ
  block_count x = part_count (length (bits_of coding kind x))

  -- ---- a receiver to which this part of picture p is to come
  pub data Ready (p part : ℕ) (m : Moment) : Type 0 where
    -- it wants that part
    awaiting : is_lost m.standing ≡ false → m.wanted ≡ place p part → ((x : Picture D) → get_elem? sent p ≡ some x → part < block_count x) → Ready p part m
    -- the picture is a refresh, not earlier than what it wants, and part 0 is to come
    starting : part ≡ 0 → ((x : Picture D) → get_elem? sent p ≡ some x → refresh_of coding kind x ≡ true) → earlier_place (place p 0) m.wanted ≡ false → Ready p part m

  pub record Onward (p part : ℕ) (m : Moment) (block : List ℕ) : Type 0 where
    pub next : Moment
    pub comes : Comes lawful clip kind m block next
    pub held : Held lawful sound next
    pub ready : Ready p part next

  -- a part further, standing so
  pub record Further (p part : ℕ) (m : Moment) (block : List ℕ) (standing : Standing) : Type 0 where
    pub goes : Onward p part m block
    pub stands : goes.next.standing ≡ standing

  -- ---- one to which all have come
  pub record Complete (p part : ℕ) (m : Moment) : Type 0 where
    pub stands : m.standing ≡ T.InStep p
    pub wants : m.wanted ≡ place (p + 1) 0
    pub count : (x : Picture D) → get_elem? sent p ≡ some x → part ≡ block_count x

  pub record Completes (p part : ℕ) (m : Moment) (block : List ℕ) : Type 0 where
    pub next : Moment
    pub tick : Tick
    pub finishes : Finishing lawful clip kind p tick m block next
    pub held : Held lawful sound next
    pub complete : Complete p part next

  onward_or : {p part : ℕ} {m : Moment} {block : List ℕ} {standing : Standing} → Further p part m block standing ⊎ Completes p part m block → Onward p part m block ⊎ Completes p part m block
  onward_or (inl f) = inl f.goes
  onward_or (inr c) = inr c

  -- ---- the next block
  module _ {p part : ℕ} {block : List ℕ} (h : PartOf sent p part block) (m : Moment) (held : Held lawful sound m) where
    abbrev x : Picture D
    x = h.picture

    inside : part < block_count x
    inside = (block_of lawful sound h).part_is.part_is

    same_count : (y : Picture D) → get_elem? sent p ≡ some y → block_count x ≡ block_count y
    same_count y e = ap block_count (some-injective x y (sym h.at ∙ e))

    took : (standing : Standing) → is_lost standing ≡ false → Takes lawful clip kind (block_of lawful sound h) m held.named standing → Fits lawful sound h m held
        → Shows sent standing (shown_store (kind_size kind) (where_shown standing m.last.holder) m.lent.both) → Further p (part + 1) m block standing ⊎ Completes p (part + 1) m block
    took standing l t fits shows = go (eqb (part + 1) (block_count x)) refl
      where
        less : (a b : ℕ) → a < b → (a + 1 ≡ b → ⊥) → a + 1 < b
        less a b i n = omega (arith, i, n)

        go : (last : Bool) → eqb (part + 1) (block_count x) ≡ last → Further p (part + 1) m block standing ⊎ Completes p (part + 1) m block
        go true e =
            inr
            (record {
              next = _;
              tick = _;
              finishes = goes_arrived lawful sound h m held standing t fits e;
              held = held_drawn lawful sound h m held fits;
              complete = record { stands = refl; wants = refl; count = λ y q. eqb-true (part + 1) (block_count x) e ∙ same_count y q };
            })
        go false e =
            inl
            (record {
              goes = record {
                next = _;
                comes = goes_further lawful sound h m held standing t e;
                held = held_further lawful sound h m held standing fits shows;
                ready = awaiting l refl (λ y q. subst (λ (n : ℕ). part + 1 < n) (same_count y q) (less part (block_count x) inside (eqb-false (part + 1) (block_count x) e)));
              };
              stands = refl;
            })

    pub wanted_next : is_lost m.standing ≡ false → place p part ≡ m.wanted → Further p (part + 1) m block m.standing ⊎ Completes p (part + 1) m block
    wanted_next l w =
        took m.standing l (takes_next lawful clip kind (block_of lawful sound h) m held.named (line_of_lem lawful sound h m held false true _ not_before is_next refl))
        (fits_next lawful sound h m held l (ap (λ (q : Place). q.picture) w) (ap (λ (q : Place). q.part) w)) held.shows
      where
        not_before : earlier_place (place p part) m.wanted ≡ false
        not_before = ap (earlier_place (place p part)) (sym w) ∙ not_earlier p part p part (omega arith) (λ _. omega arith)

        is_next : both (same_place (place p part) m.wanted) (opposite (is_lost m.standing)) ≡ true
        is_next = (λ i. both (same_place (place p part) (sym w i)) (opposite (l i))) ∙ rw (eq-eqb p p refl, eq-eqb part part refl)

    begun : part ≡ 0 → refresh_of coding kind x ≡ true → earlier_place (place p 0) m.wanted ≡ false → Onward p (part + 1) m block ⊎ Completes p (part + 1) m block
    begun z r e = go (both (same_place (place p part) m.wanted) (opposite (is_lost m.standing))) refl
      where
        not_before : earlier_place (place p part) m.wanted ≡ false
        not_before = ap (λ (n : ℕ). earlier_place (place p n) m.wanted) z ∙ e

        is_refresh : both (eqb part 0) (both (refresh_of coding kind x) (eqb part 0)) ≡ true
        is_refresh = λ i. both (eq-eqb part 0 z i) (both (r i) (eq-eqb part 0 z i))

        go : (b : Bool) → both (same_place (place p part) m.wanted) (opposite (is_lost m.standing)) ≡ b → Onward p (part + 1) m block ⊎ Completes p (part + 1) m block
        go true q =
            let sides = two_of (same_place (place p part) m.wanted) _ q in
            let here = two_of (eqb p m.wanted.picture) _ sides.0 in
            onward_or (wanted_next (not_lost (is_lost m.standing) sides.1) (λ i. place (eqb-true p m.wanted.picture here.0 i) (eqb-true part m.wanted.part here.1 i)))
        go false q =
            onward_or
            (took T.Catching refl (takes_anew lawful clip kind (block_of lawful sound h) m held.named (line_of_lem lawful sound h m held false false true not_before q is_refresh))
            (fits_anew lawful sound h m held z r) (none_shown (kind_size kind) m.lent.both))

    on_next : Ready p part m → Onward p (part + 1) m block ⊎ Completes p (part + 1) m block
    on_next (awaiting l w less) = onward_or (wanted_next l (sym w))
    on_next (starting z r e) = begun z (r x h.at) e

    -- none is left to come
    pub no_next : Complete p part m → ⊥
    no_next c = ne_of_lt inside (c.count x h.at)

  -- ---- an older block
  module _ {p part : ℕ} {block : List ℕ} (o : W.Older sent p part block) (m : Moment) (held : Held lawful sound m) where
    abbrev q : ℕ
    q = o.its_picture

    ignored : earlier_place (place q o.its_part) m.wanted ≡ true → Comes lawful clip kind m block m
    ignored e = comes_old lawful clip kind (block_of lawful sound o.is) m held.named (line_of_lem lawful sound o.is m held true _ _ e refl refl)

    not_after : q < p + 1
    not_after = ⊎_elim (λ l. omega (arith, l)) (λ t. omega (arith, t.0)) (earlier_than q o.its_part p part o.earlier)

    before_it : part ≡ 0 → q < p
    before_it z = ⊎_elim (λ l. l) (λ t. absurd (omega (arith, z, t.1))) (earlier_than q o.its_part p part o.earlier)

    -- older than the next picture
    older_still : W.Older sent (p + 1) 0 block
    older_still = record { its_picture = q; its_part = o.its_part; is = o.is; earlier = is_earlier q o.its_part (p + 1) 0 (inl not_after) }

    idle_older : Complete p part m → Comes lawful clip kind m block m
    idle_older c = ignored (ap (earlier_place (place q o.its_part)) c.wants ∙ is_earlier q o.its_part (p + 1) 0 (inl not_after))

    on_older : Ready p part m → Onward p part m block
    on_older (awaiting l w less) = record { next = m; comes = ignored (ap (earlier_place (place q o.its_part)) w ∙ o.earlier); held = held; ready = awaiting l w less }
    on_older (starting z r e) =
        let g : Goes lawful sound q o.its_part m block = step_held lawful sound o.is m held in
        let l : q < p = before_it z in
        record {
          next = g.next;
          comes = g.comes;
          held = g.held;
          ready =
              starting z r
              (⊎_elim (λ s. ap (earlier_place (place p 0)) s ∙ e)
              (⊎_elim
              (λ s. ap (earlier_place (place p 0)) s ∙ not_earlier p 0 q (o.its_part + 1) (omega (arith, l)) (λ t. absurd (omega (arith, l, t))))
              (λ s. ap (earlier_place (place p 0)) s ∙ not_earlier p 0 (q + 1) 0 (omega (arith, l)) (λ _. omega arith)))
              g.wants);
        }

  -- ---- a picture
  pub record Ends (p : ℕ) (m : Moment) (blocks : List (List ℕ)) : Type 0 where
    pub last : Moment
    pub is : world_given (step coding) (world_at clip kind m) blocks ≡ world_at clip kind last
    pub held : Held lawful sound last
    pub stands : last.standing ≡ T.InStep p
    pub wants : last.wanted ≡ place (p + 1) 0
    pub finishes : W.Finishes (step coding) sent p (world_at clip kind m) blocks

  -- older blocks after it change nothing
  record Stays (p : ℕ) (m : Moment) (blocks : List (List ℕ)) : Type 0 where
    is : world_given (step coding) (world_at clip kind m) blocks ≡ world_at clip kind m
    olds : W.EachOlder sent (p + 1) 0 blocks

  stays : {p part : ℕ} {blocks : List (List ℕ)} → W.Arrives sent p part blocks → (m : Moment) → Held lawful sound m → Complete p part m → Stays p m blocks
  unfolding world_given
  stays (W.all x at e) m held c = record { is = refl; olds = tt }
  stays (W.next h a) m held c = absurd (no_next h m held c)
  stays {p} {part} (W.older {block = block} {blocks = blocks} o a) m held c =
      let rest : Stays p m blocks = stays a m held c in
      record {
        is = ap (λ (w : World). world_given (step coding) w blocks) (after_comes lawful sound m block m (idle_older o m held c)) ∙ rest.is;
        olds = (older_still o m held, rest.olds);
      }

  -- the block that finishes it
  done : (p part : ℕ) (m : Moment) (block : List ℕ) (blocks : List (List ℕ)) (c : Completes p part m block) → Stays p c.next blocks → Ends p m (block ∷ blocks)
  unfolding world_given
  done p part m block blocks c s = record {
    last = c.next;
    is = ap (λ (w : World). world_given (step coding) w blocks) (after_comes lawful sound m block c.next c.finishes.comes) ∙ s.is;
    held = c.held;
    stands = c.complete.stands;
    wants = c.complete.wants;
    finishes = record {
      before = [];
      block = block;
      after = blocks;
      is = refl;
      tick = c.tick;
      answers = ap (λ (x : Outcome). x.gave.answer) c.finishes.comes.is ∙ c.finishes.answers;
      only_older = s.olds;
    };
  }

  more : (p : ℕ) (m n : Moment) (block : List ℕ) (blocks : List (List ℕ)) → Comes lawful clip kind m block n → Ends p n blocks → Ends p m (block ∷ blocks)
  unfolding world_given
  more p m n block blocks c e = record {
    last = e.last;
    is = ap (λ (w : World). world_given (step coding) w blocks) (after_comes lawful sound m block n c) ∙ e.is;
    held = e.held;
    stands = e.stands;
    wants = e.wants;
    finishes = record {
      before = block ∷ e.finishes.before;
      block = e.finishes.block;
      after = e.finishes.after;
      is = ap (λ (l : List (List ℕ)). block ∷ l) e.finishes.is;
      tick = e.finishes.tick;
      answers =
          ap (λ (w : World). (upon (step coding) w e.finishes.before e.finishes.block).gave.answer) (after_comes lawful sound m block n c)
          ∙ e.finishes.answers;
      only_older = e.finishes.only_older;
    };
  }

  pub some_parts : (n : ℕ) → 1 ≤ n → 0 < part_count n
  some_parts n l = omega arith

  -- a part is still to come
  not_yet : (p part : ℕ) (m : Moment) (x : Picture D) → get_elem? sent p ≡ some x → part ≡ length x.blocks → Ready p part m → ⊥
  not_yet p part m x at e r = go r
    where
      all_parts : part ≡ block_count x
      all_parts = e ∙ (sound.whole p x at).count

      go : Ready p part m → ⊥
      go (awaiting l w less) = ne_of_lt (less x at) all_parts
      go (starting z s n) = ne_of_lt (some_parts (length (bits_of coding kind x)) ((lawful.each kind).has_bits x.description)) (sym z ∙ all_parts)

  pub ends : {p part : ℕ} {blocks : List (List ℕ)} → W.Arrives sent p part blocks → (m : Moment) → Held lawful sound m → Ready p part m → Ends p m blocks
  ends {p} {part} (W.all x at e) m held r = absurd (not_yet p part m x at e r)
  ends {p} (W.older {part} {block} {blocks} o a) m held r =
      let g : Onward p part m block = on_older o m held r in
      more p m g.next block blocks g.comes (ends a g.next g.held g.ready)
  ends {p} (W.next {part} {block} {blocks} h a) m held r =
      ⊎_elim
      (λ g. more p m g.next block blocks g.comes (ends a g.next g.held g.ready))
      (λ c. done p (part + 1) m block blocks c (stays a c.next c.held c.complete))
      (on_next h m held r)

  -- ---- pictures in a row
  run_append : (w : World) (a b : List (List ℕ)) → world_given (step coding) w (a ++ b) ≡ world_given (step coding) (world_given (step coding) w a) b
  unfolding world_given
  run_append w [] b = refl
  run_append w (block ∷ a) b = run_append (after_block (step coding) w block) a b

  pub joined : (k : ℕ) (m n : Moment) (first rest : List (List ℕ)) → world_given (step coding) (world_at clip kind m) first ≡ world_at clip kind n → Ends k n rest → Ends k m (first ++ rest)
  joined k m n first rest is r = record {
    last = r.last;
    is = run_append (world_at clip kind m) first rest ∙ ap (λ (w : World). world_given (step coding) w rest) is ∙ r.is;
    held = r.held;
    stands = r.stands;
    wants = r.wants;
    finishes = record {
      before = first ++ r.finishes.before;
      block = r.finishes.block;
      after = r.finishes.after;
      is = ap (λ (l : List (List ℕ)). first ++ l) r.finishes.is ∙ sym (append_assoc first r.finishes.before (r.finishes.block ∷ r.finishes.after));
      tick = r.finishes.tick;
      answers =
          ap (λ (w : World). (step coding w.receiver r.finishes.block w.lent).gave.answer)
          (run_append (world_at clip kind m) first r.finishes.before ∙ ap (λ (w : World). world_given (step coding) w r.finishes.before) is)
          ∙ r.finishes.answers;
      only_older = r.finishes.only_older;
    };
  }

  ready_on : (p : ℕ) (m : Moment) → m.standing ≡ T.InStep p → m.wanted ≡ place (p + 1) 0 → Ready (p + 1) 0 m
  ready_on p m s w = awaiting (ap is_lost s) w (λ x at. some_parts (length (bits_of coding kind x)) ((lawful.each kind).has_bits x.description))

  follow : (p : ℕ) (first : List (List ℕ)) (later : List (List (List ℕ))) → W.Arrives sent p 0 first → W.Follow sent (p + 1) later
      → (m : Moment) → Held lawful sound m → Ready p 0 m → Ends (p + length later) m (first ++ W.in_turn later)
  follow p first [] a t m held r =
      subst (λ (k : ℕ). Ends k m (first ++ [])) (sym (add-zero p)) (subst (λ (l : List (List ℕ)). Ends p m l) (sym (append-nil first)) (ends a m held r))
  follow p first (second ∷ later) a t m held r =
      let e : Ends p m first = ends a m held r in
      let rest : Ends (p + 1 + length later) e.last (second ++ W.in_turn later) = follow (p + 1) second later t.0 t.1 e.last e.held (ready_on p e.last e.stands e.wants) in
      let k : p + 1 + length later ≡ p + suc (length later) = omega arith in
      subst (λ (k : ℕ). Ends k m (first ++ (second ++ W.in_turn later))) k (joined (p + 1 + length later) m e.last first (second ++ W.in_turn later) e.is rest)

  -- ---- its last block
  arrives_parts : {p part : ℕ} {blocks : List (List ℕ)} → W.Arrives sent p part blocks → Parts lawful sound blocks
  arrives_parts (W.all x at e) = tt
  arrives_parts (W.older o a) = (record { p = o.its_picture; part = o.its_part; is = o.is }, arrives_parts a)
  arrives_parts {p} (W.next {part} h a) = (record { p = p; part = part; is = h }, arrives_parts a)

  parts_append : (a b : List (List ℕ)) → Parts lawful sound a → Parts lawful sound b → Parts lawful sound (a ++ b)
  parts_append [] b s t = t
  parts_append (block ∷ a) b s t = (s.0, parts_append a b s.1 t)

  pub parts_split : (a b : List (List ℕ)) → Parts lawful sound (a ++ b) → Parts lawful sound a × Parts lawful sound b
  parts_split [] b t = (tt, t)
  parts_split (block ∷ a) b t = let s = parts_split a b t.1 in ((t.0, s.0), s.1)

  follow_parts : (p : ℕ) (later : List (List (List ℕ))) → W.Follow sent p later → Parts lawful sound (W.in_turn later)
  follow_parts p [] t = tt
  follow_parts p (blocks ∷ later) t = parts_append blocks (W.in_turn later) (arrives_parts t.0) (follow_parts (p + 1) later t.1)

  last_of : (block : List ℕ) (blocks : List (List ℕ)) → (before : List (List ℕ)) × (last : List ℕ) × (block ∷ blocks ≡ before ++ (last ∷ []))
  last_of block [] = ([], block, refl)
  last_of block (second ∷ blocks) = let l = last_of second blocks in (block ∷ l.0, l.1, ap (λ (r : List (List ℕ)). block ∷ r) l.2)

  -- no picture is without blocks
  pub not_none : {p part : ℕ} {blocks : List (List ℕ)} → W.Arrives sent p part blocks → part ≡ 0 → blocks ≡ [] → ⊥
  not_none {p} (W.all x at e) z n = ne_of_lt (some_parts (length (bits_of coding kind x)) ((lawful.each kind).has_bits x.description)) (sym z ∙ e ∙ (sound.whole p x at).count)
  not_none (W.older o a) z n = let q : ◌≡◌ {A = ℕ} 0 1 = cc in omega arith
  not_none (W.next h a) z n = let q : ◌≡◌ {A = ℕ} 0 1 = cc in omega arith

  upon_run : (w : World) (before : List (List ℕ)) (block : List ℕ) → (upon (step coding) w before block).gave.next ≡ (world_given (step coding) w (before ++ (block ∷ []))).receiver
  unfolding world_given
  upon_run w before block = ap (λ (v : World). v.receiver) (sym (run_append w before (block ∷ [])))

  pub at_last : (m : Moment) → Held lawful sound m → (k : ℕ) (block : List ℕ) (blocks : List (List ℕ)) → Ends k m (block ∷ blocks) → Parts lawful sound (block ∷ blocks)
      → W.InStepAt (step coding) shown_by sent k (world_at clip kind m) (block ∷ blocks)
  at_last m held k block blocks e t =
      let l = last_of block blocks in
      let s = parts_split l.0 (l.1 ∷ []) (subst (λ (r : List (List ℕ)). Parts lawful sound r) l.2 t) in
      record {
        finishes = e.finishes;
        before = l.0;
        block = l.1;
        is = l.2;
        stands =
            ap (λ (r : Receiver). r.progress.standing)
            (upon_run (world_at clip kind m) l.0 l.1 ∙ ap (λ (r : List (List ℕ)). (world_given (step coding) (world_at clip kind m) r).receiver) (sym l.2) ∙ ap (λ (w : World). w.receiver) e.is)
            ∙ e.stands;
        right = upon_right lawful sound m held l.0 s.0 l.1 s.1.0;
      }

  -- from any moment of a receiver of the clip
  caught_up : (m : Moment) → Held lawful sound m → (p : ℕ) (x : Picture D) → get_elem? sent p ≡ some x → refresh_of coding kind x ≡ true → earlier_place (place p 0) m.wanted ≡ false
      → (first : List (List ℕ)) (later : List (List (List ℕ))) → W.Arrives sent p 0 first → W.Follow sent (p + 1) later
      → W.InStepAt (step coding) shown_by sent (p + length later) (world_at clip kind m) (first ++ W.in_turn later)
  caught_up m held p x at r e [] later a t = absurd (not_none a refl refl)
  caught_up m held p x at r e (block ∷ blocks) later a t =
      at_last m held (p + length later) block (blocks ++ W.in_turn later)
      (follow p (block ∷ blocks) later a t m held (starting refl (λ y q. subst (λ (z : Picture D). refresh_of coding kind z ≡ true) (some-injective x y (sym at ∙ q)) r) e))
      (parts_append (block ∷ blocks) (W.in_turn later) (arrives_parts a) (follow_parts (p + 1) later t))

-- from its opening
module _ {D : Type 0} {coding : Kind → Coding D} (lawful : AllLawful coding) where
  caught_up_always : CatchesUp coding (step coding) shown_by
  caught_up_always c r named blocks each p picture at refresh =
      let sent : List (Picture D) = pictures_in coding c in
      let sound : Sound coding c.number c.kind sent = sound_clip lawful c in
      let ran : Runs lawful sound (start r.lent) blocks =
      run_held lawful sound (start r.lent) (start_held lawful sound r.lent named) blocks (each_part lawful (opening coding c) c.calls sound blocks each) in
      let is : world_given (step coding) (begin r) blocks ≡ world_at c.number c.kind ran.last =
      ap (λ (x : Receiver). world_given (step coding) (record { receiver = x; lent = r.lent }) blocks) (sym (receiver_opened c.number c.kind r.receiver r.is_open)) ∙ ran.is in
      subst
      (λ (w : World). earlier_place (place p 0) w.receiver.progress.wanted ≡ false → (first : List (List ℕ)) (later : List (List (List ℕ))) → W.Arrives sent p 0 first → W.Follow sent (p + 1) later
      → W.InStepAt (step coding) shown_by sent (p + length later) w (first ++ W.in_turn later))
      (sym is) (λ e. caught_up lawful sound ran.last ran.held p picture at refresh e)

-- THE THEOREM
pub catches_up : CatchesUpAlways
catches_up D coding lawful = caught_up_always lawful
