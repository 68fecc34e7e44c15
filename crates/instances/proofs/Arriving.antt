-- What is said of a picture's blocks as they arrive in order, and of a block that comes after a gap. Assumes nothing.
use mathlib.Core.Path.{◌≡◌, refl, sym, ap, subst, ◌∙◌}
use mathlib.Core.Bool.{Bool, true, false}
use mathlib.Core.Logic.{⊎_elim}
use mathlib.Core.List.{List, [], ◌∷◌, ◌++◌}
use mathlib.Core.Option.{some}
use Prim.Native.Nat.{ℕ, zero, suc, ◌+◌, ◌≤◌, ◌<◌}
use native.Mathlib.Nat.{add-zero, le_refl}
use native.Mathlib.Omega.{arith}
use borrow.Author.Tests.{eqb-true, eq-eqb, ne_eqb, ltb-true, ltb-false, le-ltb}
use lib.Dec.{eqb, ltb}
use lib.ListN.{length, get_elem?}
use Rattle.laws.specs.Choice.{both, opposite}
use Rattle.laws.proofs.Choice.{first_no, second_no}
use Rattle.coding.specs.declared.Kind.{Kind}
use Rattle.coding.specs.Coding.{Coding}
use Rattle.coding.specs.Kind.{kind_size, AllLawful}
use Rattle.vault.specs.Parts.{part_count}
use Rattle.ticks.specs.declared.Tick.{Tick}
use Rattle.standing.specs.declared.Last.{Last}
use Rattle.standing.specs.Stores.{goes_into}
use Rattle.standing.specs.declared.Place.{Place}
use Rattle.standing.specs.declared.Standing.{Standing}
use Rattle.standing.specs.declared.Line.TheVariants.{Otherwise}
use Rattle.standing.specs.Answered.{Said, taken, lost, picture}
use Rattle.standing.specs.Receive.{place, last_in, earlier_place, same_place, is_lost, line_of, step}
use Rattle.standing.specs.Run.{World, world_after, answers}
use Rattle.demand3.specs.Clip.{Picture, PartOf, world_given, after_block}
use Rattle.demand3.specs.Soon.{InOrder, here, next}
use Rattle.demand3.proofs.Finished.{none_shown}
use Rattle.demand3.proofs.Step.{Moment, progress_at, world_at, astray, bits_of, refresh_of, tick_of, header_of, Comes, comes_old, comes_lost, lost_answers, Takes, takes_next, takes_anew}
use Rattle.demand3.proofs.Held.{lost_in_step, Sound, Held, held_astray, Goes, step_held, Fits, block_of, fits_next, fits_anew, goes_further, goes_answers, goes_arrived, held_further, held_drawn, line_of_lem, after_comes}
use Rattle.instances.specs.Instances.{arrival}
use Rattle.instances.specs.Bound.{NotInStep}
use Rattle.standing.specs.declared.Standing.TheVariants as T
use Rattle.demand3.specs.Soon as S

-- ---- answers, one after another
pub answers-append : {D : Type 0} (coding : Kind → Coding D) (w : World) (a b : List (List ℕ)) → answers coding w (a ++ b) ≡ answers coding w a ++ answers coding (world_given (step coding) w a) b
unfolding answers world_given world_after
answers-append coding w [] b = refl
answers-append coding w (block ∷ a) b =
    ap (λ (l : List Said). (step coding w.receiver block w.lent).gave.answer ∷ l) (answers-append coding (after_block (step coding) w block) a b)

-- no place is earlier than itself
not_before : (p part : ℕ) → earlier_place (place p part) (place p part) ≡ false
not_before p part = rw (le-ltb p p (le_refl p), eq-eqb p p refl, le-ltb part part (le_refl part))

onward : (part i : ℕ) → part + suc i ≡ part + 1 + i
onward part i = omega arith

module _ {D : Type 0} {coding : Kind → Coding D} (lawful : AllLawful coding) {clip : ℕ} {kind : Kind} {sent : List (Picture D)} (sound : Sound coding clip kind sent) where
  -- from this moment the blocks bring picture p in step, this is known of it as the last one, and this is said of them
  pub record Brings (p : ℕ) (after : Last) (m : Moment) (blocks : List (List ℕ)) (says : List Said) : Type 0 where
    pub last : Moment
    pub is : world_given (step coding) (world_at clip kind m) blocks ≡ world_at clip kind last
    pub held : Held lawful sound last
    pub stands : last.standing ≡ T.InStep p
    pub wants : last.wanted ≡ place (p + 1) 0
    pub leaves : last.last ≡ after
    pub said_are : answers coding (world_at clip kind m) blocks ≡ says

  -- what is said of one block, and then of the others
  pub answers_on : (m n : Moment) (block : List ℕ) (blocks : List (List ℕ)) (a : Said) (c : Comes lawful clip kind m block n) → c.answer ≡ a
      → answers coding (world_at clip kind m) (block ∷ blocks) ≡ a ∷ answers coding (world_at clip kind n) blocks
  unfolding answers world_after
  answers_on m n block blocks a c e =
      (λ i. (c.is i).gave.answer ∷ answers coding (record { receiver = (c.is i).gave.next; lent = (c.is i).left }) blocks)
      ∙ ap (λ (s : Said). s ∷ answers coding (world_at clip kind n) blocks) e

  more : (p : ℕ) (after : Last) (m n : Moment) (block : List ℕ) (blocks : List (List ℕ)) (a : Said) (rest : List Said) (c : Comes lawful clip kind m block n) → c.answer ≡ a
      → Brings p after n blocks rest → Brings p after m (block ∷ blocks) (a ∷ rest)
  unfolding world_given
  more p after m n block blocks a rest c e r = record {
    last = r.last;
    is = ap (λ (w : World). world_given (step coding) w blocks) (after_comes lawful sound m block n c) ∙ r.is;
    held = r.held;
    stands = r.stands;
    wants = r.wants;
    leaves = r.leaves;
    said_are = answers_on m n block blocks a c e ∙ ap (λ (l : List Said). a ∷ l) r.said_are;
  }

  module _ (p : ℕ) (x : Picture D) (at : get_elem? sent p ≡ some x) where
    abbrev count : ℕ
    count = part_count (length (bits_of coding kind x))

    abbrev Own : ℕ → List (List ℕ) → Type 0
    Own part blocks = (i : ℕ) → get_elem? blocks i ≡ get_elem? x.blocks (part + i)

    abbrev part_of : (part : ℕ) (block : List ℕ) (blocks : List (List ℕ)) → Own part (block ∷ blocks) → PartOf sent p part block
    part_of part block blocks h = record { picture = x; at = at; has = ap (get_elem? x.blocks) (sym (add-zero part)) ∙ sym (h 0) }

    -- the tick of this picture, finished after this one, and what is known then
    abbrev tick_after : Last → Tick
    tick_after last = tick_of coding kind x last p

    abbrev last_after : Last → Last
    last_after last = last_in (goes_into last.holder) p (tick_after last)

    -- ---- the parts that are wanted
    module _ (part : ℕ) (block : List ℕ) (blocks : List (List ℕ)) (own : Own part (block ∷ blocks)) (m : Moment) (held : Held lawful sound m) (l : is_lost m.standing ≡ false) (w : m.wanted ≡ place p part) where
      abbrev h : PartOf sent p part block
      h = part_of part block blocks own

      wanted_now : both (same_place (place p part) m.wanted) (opposite (is_lost m.standing)) ≡ true
      wanted_now = (λ i. both (same_place (place p part) (w i)) (opposite (l i))) ∙ rw (eq-eqb p p refl, eq-eqb part part refl)

      took : Takes lawful clip kind (block_of lawful sound h) m held.named m.standing
      took = takes_next lawful clip kind (block_of lawful sound h) m held.named (line_of_lem lawful sound h m held false true _ (ap (earlier_place (place p part)) w ∙ not_before p part) wanted_now refl)

      fits : Fits lawful sound h m held
      fits = fits_next lawful sound h m held l (sym (ap (λ (q : Place). q.picture) w)) (sym (ap (λ (q : Place). q.part) w))

      last_part : part + 1 ≡ count → Brings p (last_after m.last) m (block ∷ []) (picture p (tick_after m.last) ∷ [])
      unfolding world_given answers
      last_part c =
          let f = goes_arrived lawful sound h m held m.standing took fits (eq-eqb (part + 1) count c) in
          more p (last_after m.last) m _ block [] (picture p (tick_after m.last)) [] f.comes f.answers
          (record { last = _; is = refl; held = held_drawn lawful sound h m held fits; stands = refl; wants = refl; leaves = refl; said_are = refl })

      next_part : (part + 1 ≡ count → ⊥) → (after : Last) (rest : List Said)
          → ((n : Moment) → Held lawful sound n → is_lost n.standing ≡ false → n.wanted ≡ place p (part + 1) → n.last ≡ m.last → Brings p after n blocks rest)
          → Brings p after m (block ∷ blocks) (taken p part ∷ rest)
      next_part c after rest on =
          let e = ne_eqb (part + 1) count c in
          more p after m _ block blocks (taken p part) rest (goes_further lawful sound h m held m.standing took e) (goes_answers lawful sound h m held m.standing took e)
          (on _ (held_further lawful sound h m held m.standing fits held.shows) l refl refl)

    pub from_part : (left part : ℕ) (blocks : List (List ℕ)) → Own part blocks → length blocks ≡ suc left → part + suc left ≡ count → (m : Moment) → Held lawful sound m → is_lost m.standing ≡ false → m.wanted ≡ place p part
        → (last : Last) → m.last ≡ last → Brings p (last_after last) m blocks (arrival p part left (tick_after last))
    from_part left part [] own n c m held l w last q = absurd (omega arith)
    from_part zero part (block ∷ []) own n c m held l w last q =
        subst (λ (a : Last). Brings p (last_after a) m (block ∷ []) (picture p (tick_after a) ∷ [])) q (last_part part block [] own m held l w (omega arith))
    from_part zero part (block ∷ second ∷ blocks) own n c m held l w last q = absurd (omega arith)
    from_part (suc left) part (block ∷ blocks) own n c m held l w last q =
        next_part part block blocks own m held l w (λ e. omega arith) (last_after last) (arrival p (part + 1) left (tick_after last))
        (λ k h l' w' q'. from_part left (part + 1) blocks (λ i. own (suc i) ∙ ap (get_elem? x.blocks) (onward part i)) (omega arith) (omega arith) k h l' w' last (q' ∙ q))

    -- ---- a refresh of two parts or more, to a receiver that is lost
    module _ (block : List ℕ) (blocks : List (List ℕ)) (own : Own 0 (block ∷ blocks)) (m : Moment) (held : Held lawful sound m) (r : refresh_of coding kind x ≡ true) (l : is_lost m.standing ≡ true) (e : earlier_place (place p 0) m.wanted ≡ false) where
      abbrev begun : PartOf sent p 0 block
      begun = part_of 0 block blocks own

      took_anew : Takes lawful clip kind (block_of lawful sound begun) m held.named T.Catching
      took_anew =
          takes_anew lawful clip kind (block_of lawful sound begun) m held.named
          (line_of_lem lawful sound begun m held false false true e (second_no (same_place (place p 0) m.wanted) (opposite (is_lost m.standing)) (ap opposite l)) (ap (λ (t : Bool). both t true) r))

      from_refresh : (left : ℕ) → length (block ∷ blocks) ≡ suc (suc left) → suc (suc left) ≡ count → (last : Last) → m.last ≡ last → Brings p (last_after last) m (block ∷ blocks) (arrival p 0 (suc left) (tick_after last))
      from_refresh left n c last q =
          let fits = fits_anew lawful sound begun m held refl r in
          let e : eqb (0 + 1) count ≡ false = ne_eqb (0 + 1) count (λ q. omega arith) in
          more p (last_after last) m _ block blocks (taken p 0) (arrival p (0 + 1) left (tick_after last)) (goes_further lawful sound begun m held T.Catching took_anew e) (goes_answers lawful sound begun m held T.Catching took_anew e)
          (from_part left (0 + 1) blocks (λ i. own (suc i) ∙ ap (get_elem? x.blocks) (onward 0 i)) (omega arith) (omega arith) _ (held_further lawful sound begun m held T.Catching fits (none_shown (kind_size kind) m.lent.both)) refl refl last q)

    pub from_start : (left : ℕ) (blocks : List (List ℕ)) → Own 0 blocks → 1 ≤ left → length blocks ≡ suc left → suc left ≡ count → (m : Moment) → Held lawful sound m
        → refresh_of coding kind x ≡ true → is_lost m.standing ≡ true → earlier_place (place p 0) m.wanted ≡ false → (last : Last) → m.last ≡ last
        → Brings p (last_after last) m blocks (arrival p 0 left (tick_after last))
    from_start zero blocks own o n c m held r l e last q = absurd (omega arith)
    from_start (suc left) [] own o n c m held r l e last q = absurd (omega arith)
    from_start (suc left) (block ∷ blocks) own o n c m held r l e last q = from_refresh block blocks own m held r l e left n c last q

  -- ---- part 0 of a later picture that is no refresh
  module _ {p : ℕ} {block : List ℕ} (h : PartOf sent p 0 block) (m : Moment) (held : Held lawful sound m) (r : refresh_of coding kind h.picture ≡ false) (e : earlier_place (place p 0) m.wanted ≡ false) (s : same_place (place p 0) m.wanted ≡ false) where
    otherwise : line_of (progress_at m) (header_of coding kind h.picture clip p 0) ≡ Otherwise
    otherwise = line_of_lem lawful sound h m held false false false e (first_no (same_place (place p 0) m.wanted) (opposite (is_lost m.standing)) s) (ap (λ (t : Bool). both t true) r)

    pub goes_astray : Comes lawful clip kind m block (astray m)
    goes_astray = comes_lost lawful clip kind (block_of lawful sound h) m held.named otherwise

    pub says_lost : goes_astray.answer ≡ lost
    unfolding goes_astray
    says_lost = lost_answers lawful clip kind (block_of lawful sound h) m held.named otherwise

  -- ---- a receiver that is lost stays lost over a block that is no part 0 of a refresh
  pub record Loses (m : Moment) (block : List ℕ) : Type 0 where
    pub next : Moment
    pub comes : Comes lawful clip kind m block next
    pub held : Held lawful sound next
    pub stands : next.standing ≡ T.Lost

  module _ {p part : ℕ} {block : List ℕ} (h : PartOf sent p part block) (m : Moment) (held : Held lawful sound m) (l : m.standing ≡ T.Lost) (plain : part ≡ 0 → refresh_of coding kind h.picture ≡ false) where
    no_next : both (same_place (place p part) m.wanted) (opposite (is_lost m.standing)) ≡ false
    no_next = second_no (same_place (place p part) m.wanted) (opposite (is_lost m.standing)) (ap (λ (s : Standing). opposite (is_lost s)) l)

    no_anew : both (eqb part 0) (both (refresh_of coding kind h.picture) (eqb part 0)) ≡ false
    no_anew = go (eqb part 0) refl
      where
        go : (t : Bool) → eqb part 0 ≡ t → both t (both (refresh_of coding kind h.picture) t) ≡ false
        go true e = ap (λ (r : Bool). both r true) (plain (eqb-true part 0 e))
        go false e = refl

    pub stays_lost : Loses m block
    stays_lost = go (earlier_place (place p part) m.wanted) refl
      where
        go : (a : Bool) → earlier_place (place p part) m.wanted ≡ a → Loses m block
        go true e = record { next = m; comes = comes_old lawful clip kind (block_of lawful sound h) m held.named (line_of_lem lawful sound h m held true _ _ e refl refl); held = held; stands = l }
        go false e = record {
          next = astray m;
          comes = comes_lost lawful clip kind (block_of lawful sound h) m held.named (line_of_lem lawful sound h m held false false false e no_next no_anew);
          held = held_astray lawful sound m held;
          stands = refl;
        }

  -- ---- blocks in order from a part of picture j on, and no picture between j and q is a refresh: a receiver that is lost isn't in step before q's last part
  module _ (j q last : ℕ) (plain : (i : ℕ) (x : Picture D) → get_elem? sent i ≡ some x → j < i → i < q → refresh_of coding kind x ≡ false)
      (short : (x : Picture D) → get_elem? sent q ≡ some x → last < part_count (length (bits_of coding kind x))) where
    abbrev Out : Moment → Type 0
    Out m = (k : ℕ) → m.standing ≡ T.InStep k → ⊥

    -- the order goes up
    no_further : {p part : ℕ} {blocks : List (List ℕ)} → InOrder sent q last p part blocks → (p ≤ q) × (p ≡ q → part ≤ last)
    no_further here = (le_refl q, λ e. le_refl last)
    no_further (next h o) = let b = no_further o in (b.0, λ e. let c = b.1 e in omega (arith, c))
    no_further (S.onward x at n o) = let b = no_further o in let c = b.0 in (omega (arith, c), λ e. absurd (omega (arith, c, e)))

    pub not_yet : {p part : ℕ} {blocks : List (List ℕ)} → InOrder sent q last p part blocks → j ≤ p → (part ≡ 0 → j < p) → (m : Moment) → Held lawful sound m → (p < q → m.standing ≡ T.Lost) → Out m
        → NotInStep (step coding) (world_at clip kind m) blocks
    not_yet here a z m held l out = tt
    not_yet {p} (next {part = part} {block = block} {blocks = blocks} h o) a z m held l out =
        go (λ n k t u. not_yet o a (λ e. absurd (omega (arith, e))) n k t u) (ltb p q) refl
      where
        on : (n : Moment) → Comes lawful clip kind m block n → Out n → NotInStep (step coding) (world_at clip kind n) blocks → NotInStep (step coding) (world_at clip kind m) (block ∷ blocks)
        on n c u rest =
            subst (λ (v : World). ((k : ℕ) → v.receiver.progress.standing ≡ T.InStep k → ⊥) × NotInStep (step coding) v blocks) (sym (after_comes lawful sound m block n c)) (u, rest)

        go : ((n : Moment) → Held lawful sound n → (p < q → n.standing ≡ T.Lost) → Out n → NotInStep (step coding) (world_at clip kind n) blocks) → (b : Bool) → ltb p q ≡ b
            → NotInStep (step coding) (world_at clip kind m) (block ∷ blocks)
        go below true s =
            let less : p < q = ltb-true p q s in
            let g : Loses m block = stays_lost h m held (l less) (λ e. plain p h.picture h.at (z e) less) in
            let u : Out g.next = λ k e. lost_in_step k (sym g.stands ∙ e) in
            on g.next g.comes u (below g.next g.held (λ _. g.stands) u)
        go below false s =
            let g : Goes lawful sound p part m block = step_held lawful sound h m held in
            let there : q ≤ p = ltb-false p q s in
            let up = no_further o in
            let most : p ≤ q = up.0 in
            let same : p ≡ q = omega (arith, there, most) in
            let more : part + 1 ≤ last = up.1 same in
            let has : last < part_count (length (bits_of coding kind h.picture)) = short h.picture (ap (get_elem? sent) (sym same) ∙ h.at) in
            let u : Out g.next = λ k e. ⊎_elim (λ was. out k was) (λ c. let end = c h.picture h.at in omega (arith, more, has, end)) (g.steps k e) in
            on g.next g.comes u (below g.next g.held (λ less. absurd (omega (arith, there, less))) u)
    not_yet {p} (S.onward x at n o) a z m held l out =
        let c = (no_further o).0 in
        not_yet o (omega (arith, a)) (λ _. omega (arith, a)) m held (λ _. l (omega (arith, c))) out
